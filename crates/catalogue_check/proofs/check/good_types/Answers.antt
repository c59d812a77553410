use Rattle.std.proofs.Common.{◌≡◌, refl, sym, ◌+◌, ◌-◌}
use native.Mathlib.Omega.{arith}
use Rattle.rules.specs.Catalogue.{types, good_type}
use Rattle.blocks.proofs.Ranges.{every_none, every_more, every_fails}
use Rattle.catalogue_check.proofs.Levelled.{ready-none, next_of}
use Rattle.catalogue_check.proofs.check.good_types.Goals as goal

pub loop-k-init : goal.loop-k-init
loop-k-init c = record {
  within = omega arith;
  good = every_none (good_type c.args.cat.now) 1 0 refl;
  ready = ready-none c.args.cat.now c.requires;
}

pub good_type-requires : goal.good_type-requires
good_type-requires c = next_of c.args.cat.now c.requires c.loop-k.levels c.loop-k.k (omega arith) (omega arith) c.loop-k.invariant.ready

pub returns-then-not-good_type : goal.returns-then-not-good_type
returns-then-not-good_type c = sym (every_fails (good_type c.args.cat.now) 1 _ c.loop-k.k (omega arith) (omega arith) (sym c.if-not-good_type.ensures.0))

pub loop-k-preserved : goal.loop-k-preserved
loop-k-preserved c = record {
  within = omega arith;
  good = every_more (good_type c.args.cat.now) 1 c.loop-k.k (omega arith) c.loop-k.invariant.good (sym c.if-not-good_type.ensures.0);
  ready = (let z : c.loop-k.k + 1 - 1 ≡ c.loop-k.k = omega arith in rw z (c.if-not-good_type.ensures.1 refl));
}

pub returns-else-not-good_type : goal.returns-else-not-good_type
returns-else-not-good_type c =
    let z : c.loop-k.k + 1 - 1 ≡ types c.args.cat.now = omega arith in
    sym (rw z at (every_more (good_type c.args.cat.now) 1 c.loop-k.k (omega arith) c.loop-k.invariant.good (sym c.if-not-good_type.ensures.0)))
