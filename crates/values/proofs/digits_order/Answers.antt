use Rattle.std.proofs.Common.{◌∙◌}
use Rattle.values.proofs.Compared.{by_front, first_decides, no_digits}
use Rattle.values.proofs.digits_order.Goals as goal

pub returns-in-Equal : goal.returns-in-Equal
returns-in-Equal c = λ h.
    c.digit_order.ensures ∙ by_front _ _ _ _ _ _ _ c.in-Equal.ensures c.in-Some.ensures.cases.0 c.in-Some-split_last.ensures.cases.0 c.requires h

pub returns-in_default-order_of : goal.returns-in_default-order_of
returns-in_default-order_of c = λ h.
    first_decides _ _ c.in_default-order_of.not-Equal
    ∙ by_front _ _ _ _ _ _ _ c.order_of.ensures c.in-Some.ensures.cases.0 c.in-Some-split_last.ensures.cases.0 c.requires h

pub returns-in_default : goal.returns-in_default
returns-in_default c = λ h. no_digits _ _ _ c.in_default.ensures.cases h
