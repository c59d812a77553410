use Prim.Native.Nat.{◌-◌}
use lib.ListN.{length}
use Rattle.arguments.proofs.Sole.{Telling}
use Rattle.arguments.proofs.alone.alone_in.Given as goal

abbrev pub invariant-loop-at : goal.invariant-loop-at
invariant-loop-at l = Telling l.cat l.list l.base l.t l.initial.own l.own l.at

abbrev pub decreases-loop-at : goal.decreases-loop-at
decreases-loop-at l = length l.list - l.at
