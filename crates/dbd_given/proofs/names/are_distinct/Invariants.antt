use mathlib.Core.Path.{◌≡◌}
use Prim.Native.Nat.{◌*◌, ◌-◌}
use Rattle.statements.specs.Draft.{rows}
use Rattle.statements.specs.Dbd.{distinct}
use Rattle.dbd_given.proofs.names.are_distinct.Given as goal

abbrev pub invariant-loop-i : goal.invariant-loop-i
invariant-loop-i l = distinct (rows 8 l.names (8 * l.i) (l.n - l.i)) ≡ distinct (rows 8 l.names 0 l.n)
