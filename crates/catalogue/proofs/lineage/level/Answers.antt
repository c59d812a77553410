use mathlib.Core.Path.{◌≡◌, ap}
use Prim.Native.Nat.{ℕ, ◌*◌}
use native.Mathlib.Omega.{arith}
use Rattle.terms.specs.Names.{code}
use Rattle.rules.specs.Block.{byte}
use Rattle.rules.specs.Catalogue.{level}
use Rattle.catalogue.proofs.Hierarchy.{type-range}
use Rattle.catalogue.proofs.Levels.{ordered, level-none, counted-few, up-less, counted-more}
use Rattle.catalogue.proofs.lineage.level.Goals as goal

pub loop-u-init : goal.loop-u-init
loop-u-init c = ((type-range c.args.cat.now c.args.t c.requires.1).1, omega arith)

pub bounds-cat-wide : goal.bounds-cat-wide
bounds-cat-wide c = omega (
  arith,
  c.wide.ensures.0,
  (ordered c.args.cat.now
      c.requires.0 c.loop-u.u
      c.loop-u.invariant.0).within,
)

pub overflow_add-l : goal.overflow_add-l
overflow_add-l c = omega (
  arith,
  counted-few c.args.cat.now c.requires.0 c.args.t
      c.requires.1 c.loop-u.l
      c.loop-u.u c.loop-u.invariant.0
      c.loop-u.invariant.1,
)

pub loop-u-smaller : goal.loop-u-smaller
loop-u-smaller c = up-less c.args.cat.now c.requires.0 c.args.t c.requires.1 c.loop-u.l c.loop-u.u c.loop-u.invariant.0 c.loop-u.invariant.1 _
    c.loop-u-test.true (ap (λ (k : ℕ). byte c.args.cat.now (8 * k)) c.wide.ensures.0)

pub loop-u-preserved : goal.loop-u-preserved
loop-u-preserved c = (
  omega (
    arith,
    up-less c.args.cat.now c.requires.0 c.args.t
        c.requires.1 c.loop-u.l
        c.loop-u.u c.loop-u.invariant.0
        c.loop-u.invariant.1 _ c.loop-u-test.true
        (ap (λ (k : ℕ). byte c.args.cat.now (8 * k)) c.wide.ensures.0),
    c.loop-u.invariant.0,
  ),
  counted-more c.args.cat.now
      c.requires.0 c.args.t c.requires.1
      c.loop-u.l c.loop-u.u c.loop-u.invariant.0
      c.loop-u.invariant.1 _ c.loop-u-test.true
      (ap (λ (k : ℕ). byte c.args.cat.now (8 * k)) c.wide.ensures.0),
)

pub returns : goal.returns
returns c = let z : c.loop-u.u ≡ 0 = omega (arith, c.loop-u-test.false) in omega
    (arith, c.loop-u.invariant.1, ap (λ (k : ℕ). level c.args.cat.now (code k)) z, level-none c.args.cat.now)
