use Rattle.std.proofs.Common.{◌∙◌}
use native.Mathlib.Omega.{arith}
use Rattle.blocks.proofs.Remaining.{order_next, order_told, order_end}
use Rattle.blocks.proofs.slices.order_of.Goals as goal

pub returns-then-a-i : goal.returns-then-a-i
returns-then-a-i c = c.cmp.ensures ∙ order_told c.args.a.now c.args.b.now c.loop-i.i (omega (arith, c.min-i-end.ensures)) c.if-a-i.true ∙ c.loop-i.invariant

pub loop-i-preserved : goal.loop-i-preserved
loop-i-preserved c = order_next c.args.a.now c.args.b.now c.loop-i.i (omega (arith, c.min-i-end.ensures)) (omega (arith, c.if-a-i.false)) ∙ c.loop-i.invariant

pub returns : goal.returns
returns c = order_end c.args.a.now c.args.b.now c.loop-i.i (omega (arith, c.min-i-end.ensures)) ∙ c.loop-i.invariant
