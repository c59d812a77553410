use mathlib.Core.Path.{◌≡◌}
use Rattle.rules.specs.Cells.{arriving}
use Rattle.rules.specs.Table.{listing}
use Rattle.twins.specs.Among.{placed}
use Rattle.twins.proofs.Passing.{onward}
use Rattle.twins.proofs.pass_row.Given as goal

abbrev pub invariant-loop-at : goal.invariant-loop-at
invariant-loop-at l =
    onward l.cat (listing l.cat l.tab) (arriving l.cat l.t l.area) l.at l.taken ≡ placed l.cat (listing l.cat l.tab) (arriving l.cat l.t l.area)
    l.from
