use mathlib.Core.Path.{◌≡◌}
use Prim.Native.Nat.{◌≤◌}
use Rattle.rules.specs.Cells.{level_at}
use Rattle.rules.specs.Table.{listing}
use Rattle.cells.specs.Lent.{climbed, parent_at}
use Rattle.cells.proofs.runs.parent_of.Given as goal

abbrev pub invariant-loop-k : goal.invariant-loop-k
invariant-loop-k l = (l.k ≤ l.initial.k) ×
    (climbed l.cat (listing l.cat l.tab) (level_at l.cat (listing l.cat l.tab) l.initial.k) l.k ≡ parent_at l.cat (listing l.cat l.tab) l.initial.k)

abbrev pub decreases-loop-k : goal.decreases-loop-k
decreases-loop-k l = l.k
