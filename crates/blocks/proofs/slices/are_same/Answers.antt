use Rattle.std.proofs.Common.{◌∙◌}
use native.Mathlib.Omega.{arith}
use Rattle.blocks.proofs.Remaining.{same_next, same_stop, same_end, same_length}
use Rattle.blocks.proofs.slices.are_same.Goals as goal

pub returns-then-a-b : goal.returns-then-a-b
returns-then-a-b c = same_length _ _ c.if-a-b.true

pub returns-then-a-k : goal.returns-then-a-k
returns-then-a-k c = same_stop c.args.a.now c.args.b.now c.loop-k.k (omega arith) (omega arith) c.if-a-k.true ∙ c.loop-k.invariant

pub loop-k-preserved : goal.loop-k-preserved
loop-k-preserved c = same_next c.args.a.now c.args.b.now c.loop-k.k (omega arith) (omega arith) (omega (arith, c.if-a-k.false)) ∙ c.loop-k.invariant

pub returns : goal.returns
returns c = same_end c.args.a.now c.args.b.now c.loop-k.k (omega arith) (omega arith) ∙ c.loop-k.invariant
