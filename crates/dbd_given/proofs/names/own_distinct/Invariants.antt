use mathlib.Core.Path.{◌≡◌}
use Rattle.statements.specs.Draft.{rows, own_names}
use Rattle.statements.specs.Dbd.{distinct}
use Rattle.dbd_names.proofs.Named.{own_from}
use Rattle.dbd_given.proofs.names.own_distinct.Given as goal

abbrev pub invariant-loop-i : goal.invariant-loop-i
invariant-loop-i l = distinct (own_from l.fields l.names l.n l.t l.i) ≡ distinct (own_names l.t (rows 4 l.fields 0 l.n) (rows 8 l.names 0 l.n))
