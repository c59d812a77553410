use mathlib.Core.Path.{◌≡◌}
use mathlib.Core.List.{◌++◌}
use Prim.Native.Nat.{◌<◌}
use Rattle.rules.specs.Cells.{level_at}
use Rattle.rules.specs.Table.{count, listing}
use Rattle.search.specs.Stretch.{levels}
use Rattle.search.specs.Good.{reached, from_cell}
use Rattle.search.proofs.stretch.path_to.Given as goal

abbrev pub invariant-loop-p : goal.invariant-loop-p
invariant-loop-p l = (l.at.0 < count l.tab) ×
    (l.l ≡ level_at l.cat (listing l.cat l.tab) l.at.0) ×
    (from_cell l.cat l.tab (l.one ++ l.two) l.t l.at.0 l.below ≡ reached l.cat (listing l.cat l.tab) (levels l.cat (l.one ++ l.two) l.t) l.initial.at.0)

abbrev pub decreases-loop-p : goal.decreases-loop-p
decreases-loop-p l = l.at.0
