use mathlib.Core.Path.{refl, ◌∙◌}
use native.Mathlib.Omega.{arith}
use Rattle.statements.specs.Words.{value}
use Rattle.dbd_words.proofs.Digits.{number_digits, digit_at, digits-next, capped-low, value-next, value-end}
use Rattle.dbd_words.proofs.words.number.Goals as goal

pub loop-digit-init : goal.loop-digit-init
unfolding value
loop-digit-init c = (omega arith, omega arith, number_digits _ c.requires, refl)

pub next_number-n-requires : goal.next_number-n-requires
next_number-n-requires c = digit_at _ _ c.loop-digit-test.true c.loop-digit.invariant.2

pub loop-digit-preserved : goal.loop-digit-preserved
loop-digit-preserved c = (
  omega arith,
  capped-low _ _ c.next_number-n.ensures,
  digits-next _ _
      c.loop-digit-test.true (digit_at _ _ c.loop-digit-test.true
      c.loop-digit.invariant.2) ∙ c.loop-digit.invariant.2,
  value-next _ _ _ _
      c.loop-digit-test.true c.next_number-n.ensures ∙ c.loop-digit.invariant.3,
)

pub returns : goal.returns
returns c = value-end _ _ _ c.loop-digit-test.false c.loop-digit.invariant.1 ∙ c.loop-digit.invariant.3
