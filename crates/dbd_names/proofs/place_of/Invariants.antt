use mathlib.Core.Path.{◌≡◌}
use Prim.Native.Nat.{◌+◌, ◌*◌, ◌-◌}
use Rattle.statements.specs.Draft.{rows, place_from, place_of}
use Rattle.dbd_names.proofs.place_of.Given as goal

abbrev pub invariant-loop-i : goal.invariant-loop-i
invariant-loop-i l = place_from (l.i + 1) l.name (rows 8 l.names (8 * l.i) (l.n - l.i)) ≡ place_of l.name (rows 8 l.names 0 l.n)
