use mathlib.Core.Path.{◌≡◌}
use Prim.Native.Nat.{◌≤◌, ◌+◌}
use lib.ListN.{length}
use Rattle.blocks.proofs.Moved.{up_at}
use Rattle.blocks.proofs.moves.shift_up.Given as goal

abbrev pub invariant-loop-i : goal.invariant-loop-i
invariant-loop-i l = (l.i ≤ l.initial.i) × (l.gap + l.initial.i ≡ length l.initial.tail) × (length l.tail ≡ length l.initial.tail) ×
    (l.tail ≡ up_at l.gap l.initial.i l.i l.initial.tail)

abbrev pub decreases-loop-i : goal.decreases-loop-i
decreases-loop-i l = l.i
