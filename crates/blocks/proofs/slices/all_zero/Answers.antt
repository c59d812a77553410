use Rattle.std.proofs.Common.{◌∙◌}
use Rattle.blocks.proofs.Remaining.{most-next, most-end}
use Rattle.blocks.proofs.slices.all_zero.Goals as goal

pub loop-x-preserved : goal.loop-x-preserved
loop-x-preserved c = rw c.max-most.ensures (most-next _ _ _ c.loop-x-test.true ∙ c.loop-x.invariant)

pub returns : goal.returns
returns c = most-end _ _ _ c.loop-x-test.false ∙ c.loop-x.invariant
