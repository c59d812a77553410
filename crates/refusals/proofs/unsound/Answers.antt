use mathlib.Core.Path.{sym, ◌∙◌}
use Rattle.rules.specs.Outcome.{unsound}
use Rattle.cells.proofs.Located.{good-sound}
use Rattle.refusals.proofs.unsound.Goals as goal

pub returns-then-not-is_good : goal.returns-then-not-is_good
unfolding unsound
returns-then-not-is_good c = simp (sym c.is_good.ensures ∙ c.if-not-is_good.true)

pub returns-then-not-is_good_on : goal.returns-then-not-is_good_on
unfolding unsound
returns-then-not-is_good_on c = simp (
  sym c.is_good.ensures ∙ c.if-not-is_good.false,
  sym c.is_good_on.ensures ∙ c.if-not-is_good_on.true,
)

pub is_good_on-requires-2 : goal.is_good_on-requires-2
unfolding unsound
is_good_on-requires-2 c = rw c.cell_size.ensures.0 (good-sound c.args.cat.now c.args.tab.now
    (sym c.is_good.ensures ∙ c.if-not-is_good.false)
    (sym c.is_good_on.ensures ∙ c.if-not-is_good_on.false))

pub returns-then-not-is_good_on-2 : goal.returns-then-not-is_good_on-2
unfolding unsound
returns-then-not-is_good_on-2 c = simp (
  sym c.is_good.ensures ∙ c.if-not-is_good.false,
  sym c.is_good_on.ensures ∙ c.if-not-is_good_on.false,
  sym
      c.is_good_on-2.ensures ∙ c.if-not-is_good_on-2.true,
)

pub returns : goal.returns
unfolding unsound
returns c = simp (
  sym c.is_good.ensures ∙ c.if-not-is_good.false,
  sym c.is_good_on.ensures ∙ c.if-not-is_good_on.false,
  sym
      c.is_good_on-2.ensures ∙ c.if-not-is_good_on-2.false,
)
