use mathlib.Core.Path.{◌≡◌}
use Prim.Native.Nat.{◌-◌}
use lib.ListN.{length}
use Rattle.terms.specs.Moves.{after_place}
use Rattle.rules.specs.Table.{listing}
use Rattle.reports.proofs.Steps.{Stands}
use Rattle.reports.proofs.Outer.{Outer}
use Rattle.reports.proofs.nesting.nested_sound.Given as goal

abbrev pub invariant-loop-area : goal.invariant-loop-area
invariant-loop-area l = Outer l.cat l.tab l.one l.two l.initial.out l.hits
    (after_place l.at.place) l.out × Stands l.cat l.tab l.at l.area × (length l.area ≡ 120)

abbrev pub decreases-loop-area : goal.decreases-loop-area
decreases-loop-area l = length (listing l.cat l.tab) - after_place l.at.place
