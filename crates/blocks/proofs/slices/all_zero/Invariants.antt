use Rattle.std.proofs.Common.{◌≡◌, ◌&&◌, eqb, drop}
use Rattle.rules.specs.Block.{zeros}
use Rattle.blocks.proofs.slices.all_zero.Given as goal

abbrev pub invariant-loop-x : goal.invariant-loop-x
invariant-loop-x l = (eqb l.most 0 && zeros (drop l.x-index l.b)) ≡ zeros l.b
