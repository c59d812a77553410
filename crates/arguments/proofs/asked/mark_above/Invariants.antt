use Rattle.terms.specs.Names.{code}
use Rattle.arguments.proofs.Rows.{Climbing}
use Rattle.arguments.proofs.asked.mark_above.Given as goal

abbrev pub invariant-loop-u : goal.invariant-loop-u
invariant-loop-u l = Climbing l.cat (code l.initial.u) l.row l.u

abbrev pub decreases-loop-u : goal.decreases-loop-u
decreases-loop-u l = l.u
