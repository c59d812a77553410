use borrow.Author.Tests.{eq-eqb, ne_eqb}
use Rattle.refusals.specs.Refusals.{too_short}
use Rattle.refusals.proofs.is_short.Goals as goal

pub returns-then-number-ne9 : goal.returns-then-number-ne9
unfolding too_short
returns-then-number-ne9 c = simp (ne_eqb _ _ c.if-number-ne9.true)

pub returns-else-number-ne9 : goal.returns-else-number-ne9
unfolding too_short
returns-else-number-ne9 c = simp (eq-eqb _ _ c.if-number-ne9.false)
