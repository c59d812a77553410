use mathlib.Core.Path.{◌≡◌}
use Prim.Native.Nat.{◌-◌}
use lib.ListN.{length}
use Rattle.terms.specs.Statuses.{verdict}
use Rattle.arguments.specs.Sound.{rest}
use Rattle.arguments.proofs.read.fault_behind.Given as goal

abbrev pub invariant-loop-at : goal.invariant-loop-at
invariant-loop-at l = verdict (rest l.cat l.list l.before l.at).fault ≡ verdict (rest l.cat l.list l.initial.before l.initial.at).fault

abbrev pub decreases-loop-at : goal.decreases-loop-at
decreases-loop-at l = length l.list - l.at
