use Prim.Native.Nat.{◌-◌}
use lib.ListN.{length}
use Rattle.arguments.proofs.Walk.{Passed}
use Rattle.arguments.proofs.lookup.last_of.Given as goal

abbrev pub invariant-loop-last : goal.invariant-loop-last
invariant-loop-last l = Passed l.cat l.list l.last

abbrev pub decreases-loop-last : goal.decreases-loop-last
decreases-loop-last l = length l.list - l.last.next
