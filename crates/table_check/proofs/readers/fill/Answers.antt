use Rattle.std.proofs.Common.{◌≡◌, ◌+◌, ◌-◌, ◌∙◌}
use native.Mathlib.Omega.{arith}
use Rattle.rules.specs.Catalogue.{types}
use Rattle.catalogue.proofs.Hierarchy.{header-facts}
use Rattle.table_check.proofs.Types.{kind-bytes}
use Rattle.table_check.proofs.Row.{row_sized, row_next}
use Rattle.table_check.proofs.readers.fill.Goals as goal

pub loop-v-init : goal.loop-v-init
loop-v-init c =
    let h = header-facts c.args.cat.now c.requires.0 in
    let all = c.wide-v-end.ensures.0 ∙ c.types.ensures in
    record {
      within = omega arith;
      all = all;
      few = omega (arith, h.types-most, all);
      whole = omega (arith, h.size, all);
      filled = row_sized c.args.cat.now c.args.facts.now c.args.size c.requires.2;
    }

pub overflow_mul-facts-in-loop-v-4 : goal.overflow_mul-facts-in-loop-v-4
overflow_mul-facts-in-loop-v-4 c =
    omega (arith, (kind-bytes c.args.cat.now c.requires.0 c.loop-v.v (omega arith) (omega (arith, c.loop-v.invariant.all))).1)

pub overflow_add-facts-in-loop-v-2 : goal.overflow_add-facts-in-loop-v-2
overflow_add-facts-in-loop-v-2 c =
    let b = kind-bytes c.args.cat.now c.requires.0 c.loop-v.v (omega arith) (omega (arith, c.loop-v.invariant.all)) in
    omega (arith, b.0, b.1)

pub loop-v-preserved : goal.loop-v-preserved
loop-v-preserved c = record {
  within = omega arith;
  all = c.loop-v.invariant.all;
  few = c.loop-v.invariant.few;
  whole = c.loop-v.invariant.whole;
  filled =
      let z : c.loop-v.v + 1 - 1 ≡ c.loop-v.v = omega arith in
      rw z (row_next c.args.cat.now c.loop-v.facts c.args.size c.loop-v.v (omega arith) (omega (arith, c.loop-v.invariant.few)) c.loop-v.invariant.filled);
}

pub returns-2 : goal.returns-2
returns-2 c =
    let z : types c.args.cat.now ≡ c.loop-v.v = omega (arith, c.loop-v.invariant.all) in
    rw z (row_next c.args.cat.now c.loop-v.facts c.args.size c.loop-v.v (omega arith) (omega (arith, c.loop-v.invariant.few)) c.loop-v.invariant.filled)
