use Prim.Native.Nat.{◌-◌}
use lib.ListN.{length}
use Rattle.arguments.proofs.Rows.{Marking}
use Rattle.arguments.proofs.asked.mark_named.Given as goal

abbrev pub invariant-loop-at : goal.invariant-loop-at
invariant-loop-at l = Marking l.cat l.list l.base l.initial.row l.row l.at

abbrev pub decreases-loop-at : goal.decreases-loop-at
decreases-loop-at l = length l.list - l.at
