use mathlib.Core.Path.{◌≡◌}
use mathlib.Core.List.{◌++◌}
use Prim.Native.Nat.{◌<◌, ◌≤◌}
use Rattle.rules.specs.Cells.{end_at}
use Rattle.rules.specs.Matching.{first_match}
use Rattle.rules.specs.Table.{listing}
use Rattle.search.specs.Stretch.{levels, stretch_before}
use Rattle.search.proofs.beneath.forward_beneath.Given as goal

abbrev pub invariant-loop-i : goal.invariant-loop-i
invariant-loop-i l = (l.p.0 < l.i) ×
    (l.i ≤ end_at l.cat (listing l.cat l.tab) l.p.0) ×
    (l.long ≡ stretch_before l.cat (listing l.cat l.tab) (levels l.cat (l.one ++ l.two) l.t) l.i) ×
    (first_match l.cat (listing l.cat l.tab) (levels l.cat (l.one ++ l.two) l.t) l.i (end_at l.cat (listing l.cat l.tab) l.p.0) ≡ first_match
    l.cat (listing l.cat l.tab) (levels l.cat (l.one ++ l.two) l.t) l.from (end_at l.cat (listing l.cat l.tab) l.p.0))
