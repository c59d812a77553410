use Rattle.std.specs.Prelude.{Some}
use mathlib.Core.Path.{◌≡◌}
use mathlib.Core.Bool.{false}
use Prim.Native.Nat.{suc, ◌-◌}
use lib.ListN.{length}
use Rattle.terms.specs.Moves.{moved_onto}
use Rattle.rules.specs.Cells.{end_at}
use Rattle.rules.specs.Table.{listing}
use Rattle.reports.proofs.Steps.{Stands}
use Rattle.reports.proofs.OneList.{Way}
use Rattle.reports.proofs.nesting.read_under.Given as goal

abbrev pub invariant-loop-p : goal.invariant-loop-p
invariant-loop-p l = Way l.cat l.tab l.list (suc l.p.0)
    (end_at l.cat (listing l.cat l.tab) l.p.0) l.k l.initial.out l.hits (suc l.at.0) l.out × Stands l.cat l.tab (moved_onto l.at.0 (Some l.p) false)
    l.area × (length l.area ≡ 120)

abbrev pub decreases-loop-p : goal.decreases-loop-p
decreases-loop-p l = end_at l.cat (listing l.cat l.tab) l.p.0 - l.at.0
