use mathlib.Core.Path.{◌≡◌}
use mathlib.Core.List.{◌++◌}
use Prim.Native.Nat.{◌-◌}
use Rattle.rules.specs.Matching.{first_match}
use Rattle.rules.specs.Table.{listing}
use Rattle.search.specs.Stretch.{levels, stretch_before}
use Rattle.search.proofs.forward.forward.Given as goal

abbrev pub invariant-loop-i : goal.invariant-loop-i
invariant-loop-i l =
    (l.long ≡ stretch_before l.cat (listing l.cat l.tab) (levels l.cat (l.one ++ l.two) l.t) l.i) ×
    (first_match l.cat (listing l.cat l.tab) (levels l.cat (l.one ++ l.two) l.t) l.i l.to ≡ first_match l.cat (listing l.cat l.tab)
    (levels l.cat (l.one ++ l.two) l.t) l.from l.to)

abbrev pub decreases-loop-i : goal.decreases-loop-i
decreases-loop-i l = l.to - l.i
