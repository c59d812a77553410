use Rattle.std.proofs.Common.{sym, ◌∙◌}
use Rattle.values.proofs.Signs.{both-plus, both-minus, minus_plus, plus-minus}
use Rattle.values.proofs.packed_order.Goals as goal

pub returns-in-false-false : goal.returns-in-false-false
returns-in-false-false c = λ h. c.digits_order-in-false-false.ensures h ∙ both-plus _ _ (sym c.in-false-false.ensures) (sym c.in-false-false.ensures')

pub returns-in-true-true : goal.returns-in-true-true
returns-in-true-true c = λ h. c.digits_order.ensures (record { first = h.second; second = h.first })
    ∙ both-minus _ _ (sym c.in-true-true.ensures) (sym c.in-true-true.ensures')

pub returns-in-true-false : goal.returns-in-true-false
returns-in-true-false c = λ h. c.unless_zeros.ensures ∙ minus_plus _ _ (sym c.in-true-false.ensures) (sym c.in-true-false.ensures')

pub returns-in-false-true : goal.returns-in-false-true
returns-in-false-true c = λ h. c.unless_zeros-in-false-true.ensures ∙ plus-minus _ _ (sym c.in-false-true.ensures) (sym c.in-false-true.ensures')
