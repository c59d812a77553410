use Rattle.std.proofs.Common.{◌≡◌, ◌++◌, length, take, drop}
use Rattle.blocks.proofs.moves.put_each.Given as goal

abbrev pub invariant-loop-i : goal.invariant-loop-i
invariant-loop-i l = (length l.tail ≡ length l.initial.tail) × (l.tail ≡ take l.i l.from ++ drop l.i l.initial.tail)
