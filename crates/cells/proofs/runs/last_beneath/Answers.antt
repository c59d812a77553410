use native.Mathlib.Omega.{arith}
use Rattle.cells.proofs.Ancestry.{inner-next, outer-stop}
use Rattle.cells.proofs.runs.last_beneath.Goals as goal

pub returns-then-parent-t : goal.returns-then-parent-t
returns-then-parent-t c = record {
  least = c.loop-last.invariant.0;
  most =
      c.loop-last.invariant.1;
  inner = c.loop-last.invariant.2;
  outer =
      outer-stop c.args.cat.now c.requires.0 c.args.t
      c.requires.1
      c.requires.2 c.loop-last.last
      c.parent.result c.loop-last.invariant.0
      (omega (arith, c.types-top.ensures)) c.parent.ensures
      c.if-parent-t.true;
}

pub loop-last-preserved : goal.loop-last-preserved
loop-last-preserved c = (
  omega (arith, c.loop-last.invariant.0),
  omega
      (arith, c.types-top.ensures),
  inner-next c.args.cat.now
      c.requires.0 c.args.t
      c.requires.1
      c.requires.2 c.loop-last.last
      c.parent.result c.loop-last.invariant.0
      (omega (arith, c.types-top.ensures)) c.parent.ensures
      c.loop-last.invariant.2 c.if-parent-t.false,
)
