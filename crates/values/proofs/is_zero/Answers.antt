use borrow.Author.Tests.{lt-ltb, le-ltb}
use Rattle.values.proofs.Zero.{zero_split}
use Rattle.values.proofs.is_zero.Goals as goal

pub returns-then-last-lt16 : goal.returns-then-last-lt16
returns-then-last-lt16 c =
    rw (zero_split _ _ _ c.in-Some.ensures.cases.0, lt-ltb _ 16 c.if-last-lt16.true) c.all_zero.ensures

pub returns-else-last-lt16 : goal.returns-else-last-lt16
returns-else-last-lt16 c = rw (zero_split _ _ _ c.in-Some.ensures.cases.0, le-ltb _ 16 c.if-last-lt16.false)
