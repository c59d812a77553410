use mathlib.Core.Path.{ap, sym, ◌∙◌}
use Rattle.std.specs.Prelude.{not}
use Rattle.refusals.specs.Refusals.{misused_get}
use Rattle.refusals.proofs.misused_get.Goals.{else-is_gnp-via-then-is_gnp+else-is_none, else-is_gnp-via-else-is_gnp}
use Rattle.refusals.proofs.misused_get.Goals as goal

pub returns-then-is_short : goal.returns-then-is_short
unfolding misused_get
returns-then-is_short c = simp (sym c.is_short.ensures ∙ c.if-is_short.true)

pub returns-then-is_none : goal.returns-then-is_none
unfolding misused_get
returns-then-is_none c = simp (
  sym c.is_short.ensures ∙ c.if-is_short.false,
  sym c.is_gnp.ensures ∙ c.if-is_gnp.true,
  c.is_none.ensures ∙ ap not c.if-is_none.true,
)

pub returns : goal.returns
unfolding misused_get
returns c =
    elim c.else-is_gnp.branch [
      | else-is_gnp-via-then-is_gnp+else-is_none w ↦
          simp (sym c.is_short.ensures ∙ c.if-is_short.false, w.is_none.ensures ∙ ap not w.if-is_none.false, sym c.is_gnp.ensures ∙ w.if-is_gnp.true)
      | else-is_gnp-via-else-is_gnp w ↦ simp (sym c.is_short.ensures ∙ c.if-is_short.false, sym c.is_gnp.ensures ∙ w.if-is_gnp.false)
    ]
