use mathlib.Core.Path.{◌≡◌}
use mathlib.Core.List.{◌++◌}
use Rattle.rules.specs.Matching.{first_match}
use Rattle.rules.specs.Table.{listing}
use Rattle.search.specs.Stretch.{levels}
use Rattle.search.proofs.alone.forward_alone.Given as goal

abbrev pub invariant-loop-i : goal.invariant-loop-i
invariant-loop-i l = first_match l.cat (listing l.cat l.tab) (levels l.cat (l.one ++ l.two) l.t) l.i l.to ≡
    first_match l.cat (listing l.cat l.tab) (levels l.cat (l.one ++ l.two) l.t) l.from l.to
