use mathlib.Core.Path.{sym, ◌∙◌}
use Rattle.refusals.specs.Refusals.{misused_held}
use Rattle.refusals.proofs.misused_held.Goals as goal

pub returns-then-not-is_empty : goal.returns-then-not-is_empty
unfolding misused_held
returns-then-not-is_empty c = simp (sym c.is_empty.ensures ∙ c.if-not-is_empty.true)

pub returns-then-is_short : goal.returns-then-is_short
unfolding misused_held
returns-then-is_short c = simp (sym c.is_empty.ensures ∙ c.if-not-is_empty.false, sym c.is_short.ensures ∙ c.if-is_short.true)

pub returns-then-not-pos : goal.returns-then-not-pos
unfolding misused_held
returns-then-not-pos c = simp (
  sym c.is_empty.ensures ∙ c.if-not-is_empty.false,
  sym c.is_short.ensures ∙ c.if-is_short.false,
  c.if-not-pos.true,
)

pub returns : goal.returns
unfolding misused_held
returns c = simp (
  sym c.is_empty.ensures ∙ c.if-not-is_empty.false,
  sym c.is_short.ensures ∙ c.if-is_short.false,
  c.if-not-pos.false,
)
