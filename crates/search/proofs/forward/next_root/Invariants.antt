use Rattle.rules.specs.Table.{listing}
use Rattle.search.proofs.Branches.{NoRoot}
use Rattle.search.proofs.forward.next_root.Given as goal

abbrev pub invariant-loop-i : goal.invariant-loop-i
invariant-loop-i l = NoRoot (listing l.cat l.tab) l.from l.i
