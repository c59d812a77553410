use native.Mathlib.Omega.{arith}
use Rattle.arguments.proofs.Rows.{climb-start, climb-end, climb-few, climb-less, climb-next}
use Rattle.arguments.proofs.asked.mark_above.Goals as goal

pub loop-u-init : goal.loop-u-init
loop-u-init c = climb-start c.args.cat.now c.args.t c.requires.1 c.requires.2

pub bounds-row-wide : goal.bounds-row-wide
bounds-row-wide c = omega (
  arith,
  climb-few c.args.cat.now c.args.t c.requires.0
      c.loop-u-test.true c.loop-u.invariant,
  c.wide.ensures.0,
)

pub loop-u-smaller : goal.loop-u-smaller
loop-u-smaller c = rw c.parent-u.ensures (climb-less c.args.cat.now c.args.t c.requires.0 c.loop-u-test.true c.loop-u.invariant)

pub loop-u-preserved : goal.loop-u-preserved
loop-u-preserved c = climb-next c.args.cat.now c.args.t c.requires.0 c.loop-u-test.true c.loop-u.invariant c.parent-u.ensures
    c.wide.ensures.0

pub returns : goal.returns
returns c = climb-end c.args.cat.now c.args.t c.loop-u-test.false c.loop-u.invariant
