use mathlib.Core.Path.{sym, ◌∙◌}
use borrow.Author.Tests.{eq-eqb, ne_eqb}
use Rattle.rules.specs.Arguments.{good_next}
use Rattle.arguments.proofs.read.is_next.Goals as goal

pub returns-then-not-is_type : goal.returns-then-not-is_type
unfolding good_next
returns-then-not-is_type c = simp (sym c.is_type.ensures ∙ c.if-not-is_type.true)

pub returns-then-before-eq0 : goal.returns-then-before-eq0
unfolding good_next
returns-then-before-eq0 c = simp (sym c.is_type.ensures ∙ c.if-not-is_type.false, eq-eqb _ _ c.if-before-eq0.true)

pub returns : goal.returns
unfolding good_next
returns c = simp (sym c.is_type.ensures ∙ c.if-not-is_type.false, ne_eqb _ _ c.if-before-eq0.false)
    c.is_beneath.ensures
