use Prim.Native.Nat.{◌≤◌}
use Rattle.rules.specs.Catalogue.{types}
use Rattle.cells.proofs.Ancestry.{InnerTypes}
use Rattle.cells.proofs.runs.last_beneath.Given as goal

abbrev pub invariant-loop-last : goal.invariant-loop-last
invariant-loop-last l = (l.t ≤ l.last) × (l.last ≤ types l.cat) × InnerTypes l.cat l.t l.last
