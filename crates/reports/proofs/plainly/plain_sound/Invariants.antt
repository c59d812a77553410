use mathlib.Core.Path.{◌≡◌}
use mathlib.Core.List.{◌++◌}
use Rattle.rules.specs.Table.{listing}
use Rattle.search.specs.Stretch.{levels, stretch_before}
use Rattle.reports.proofs.Tested.{Passed}
use Rattle.reports.proofs.plainly.plain_sound.Given as goal

abbrev pub invariant-loop-i : goal.invariant-loop-i
invariant-loop-i l = Passed l.cat l.tab (l.one ++ l.two)
    l.initial.out l.hits l.i l.out × (l.long ≡ stretch_before l.cat (listing l.cat l.tab) (levels l.cat (l.one ++ l.two) l.t) l.i)
