use mathlib.Core.Path.{ap, sym, ◌∙◌}
use Rattle.terms.specs.declared.Argument.{Argument}
use Rattle.rules.specs.Arguments.{is_qualified}
use Rattle.refusals.specs.Refusals.{misused_insert}
use Rattle.refusals.proofs.misused_insert.Goals as goal

pub returns-then-is_empty : goal.returns-then-is_empty
unfolding misused_insert
returns-then-is_empty c = simp (sym c.is_empty.ensures ∙ c.if-is_empty.true)

pub returns-then-is_some : goal.returns-then-is_some
unfolding misused_insert
returns-then-is_some c = simp (
  sym c.is_empty.ensures ∙ c.if-is_empty.false,
  sym (c.is_some.ensures ∙ ap
      (λ (a : Argument). is_qualified a.qualification) c.last_of.ensures) ∙ c.if-is_some.true,
)

pub returns-then-is_short : goal.returns-then-is_short
unfolding misused_insert
returns-then-is_short c = simp (
  sym c.is_empty.ensures ∙ c.if-is_empty.false,
  sym (c.is_some.ensures ∙ ap (λ (a : Argument). is_qualified a.qualification)
      c.last_of.ensures) ∙ c.if-is_some.false,
  sym c.is_short.ensures ∙ c.if-is_short.true,
)

pub returns : goal.returns
unfolding misused_insert
returns c = simp (
  sym c.is_empty.ensures ∙ c.if-is_empty.false,
  sym (c.is_some.ensures ∙ ap (λ (a : Argument). is_qualified a.qualification)
      c.last_of.ensures) ∙ c.if-is_some.false,
  sym c.is_short.ensures ∙ c.if-is_short.false,
)
