use mathlib.Core.Path.{◌≡◌}
use Prim.Native.Nat.{◌≤◌, ◌-◌}
use Rattle.cells.specs.Lent.{end_from}
use Rattle.cells.proofs.runs.passed.Given as goal

abbrev pub invariant-loop-i : goal.invariant-loop-i
invariant-loop-i l = (l.from ≤ l.i) × (l.i ≤ l.to) ×
    (end_from l.tab l.size l.t l.last l.i (l.to - l.i) ≡ end_from l.tab l.size l.t l.last l.from (l.to - l.from))
