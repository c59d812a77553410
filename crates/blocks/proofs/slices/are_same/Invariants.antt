use Rattle.std.proofs.Common.{◌≡◌, drop}
use Rattle.rules.specs.Block.{same_bytes}
use Rattle.blocks.proofs.slices.are_same.Given as goal

abbrev pub invariant-loop-k : goal.invariant-loop-k
invariant-loop-k l = same_bytes (drop l.k l.a) (drop l.k l.b) ≡ same_bytes l.a l.b
