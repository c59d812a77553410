use borrow.Author.Tests.{eq-eqb, ne_eqb}
use Rattle.arguments.specs.Sound.{qualification_at, next_at}
use Rattle.arguments.proofs.read.argument_at.Goals as goal

pub returns-then-o-eq0 : goal.returns-then-o-eq0
unfolding qualification_at next_at
returns-then-o-eq0 c = simp (eq-eqb _ _ c.if-o-eq0.true)

pub returns : goal.returns
unfolding qualification_at next_at
returns c = simp (ne_eqb _ _ c.if-o-eq0.false, c.operator_of.ensures, c.wide.ensures.0, c.field_length.ensures)
