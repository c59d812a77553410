use mathlib.Core.Path.{◌≡◌}
use Rattle.statements.specs.Draft.{rows, has, own_names}
use Rattle.dbd_names.proofs.Named.{own_from}
use Rattle.dbd_names.proofs.is_own.Given as goal

abbrev pub invariant-loop-i : goal.invariant-loop-i
invariant-loop-i l = has l.name (own_from l.fields l.names l.n l.t l.i) ≡ has l.name (own_names l.t (rows 4 l.fields 0 l.n) (rows 8 l.names 0 l.n))
