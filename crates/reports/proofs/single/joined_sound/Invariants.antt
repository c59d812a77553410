use mathlib.Core.Path.{◌≡◌}
use mathlib.Core.List.{◌++◌}
use Prim.Native.Nat.{◌-◌}
use lib.ListN.{length}
use Rattle.terms.specs.Moves.{after_place}
use Rattle.rules.specs.Table.{listing}
use Rattle.answers.specs.Ready.{Again}
use Rattle.reports.proofs.Steps.{Stands}
use Rattle.reports.proofs.OneList.{Way}
use Rattle.reports.proofs.single.joined_sound.Given as goal

abbrev pub invariant-loop-area : goal.invariant-loop-area
invariant-loop-area l = Way l.cat l.tab (l.one ++ l.two) 0
    (length (listing l.cat l.tab)) 0 l.initial.out l.hits (after_place l.at.place) l.out × Stands l.cat l.tab l.at l.area × Again l.cat l.tab
    (l.one ++ l.two) l.at × (length l.area ≡ 120)

abbrev pub decreases-loop-area : goal.decreases-loop-area
decreases-loop-area l = length (listing l.cat l.tab) - after_place l.at.place
