use borrow.Author.Tests.{le-leb, lt-leb}
use Rattle.values.proofs.Number.{number_split}
use Rattle.values.proofs.is_number.Goals as goal

pub returns-then-last-le9 : goal.returns-then-last-le9
returns-then-last-le9 c =
    rw (number_split _ _ _ c.in-Some.ensures.cases.0, ← c.if-has_digits.ensures, le-leb _ 9 c.if-last-le9.true)

pub returns-else-last-le9 : goal.returns-else-last-le9
returns-else-last-le9 c =
    rw (number_split _ _ _ c.in-Some.ensures.cases.0, ← c.if-has_digits.ensures, lt-leb _ 9 c.if-last-le9.false)

pub returns-else-has_digits : goal.returns-else-has_digits
returns-else-has_digits c =
    rw (number_split _ _ _ c.in-Some.ensures.cases.0, ← c.if-has_digits.ensures) c.if-has_digits.false
