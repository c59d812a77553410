use Rattle.twins.proofs.Keys.{packed-smaller, packed-equal, packed-greater}
use Rattle.twins.proofs.packed_order_with.Goals as goal

pub returns-then-holds_at : goal.returns-then-holds_at
returns-then-holds_at c = λ h k. packed-smaller _ _ h k c.holds_at.ensures c.if-holds_at.true

pub returns-then-holds_at-2 : goal.returns-then-holds_at-2
returns-then-holds_at-2 c = λ h k. packed-equal _ _ h k c.holds_at-2.ensures c.if-holds_at-2.true

pub returns : goal.returns
returns c = λ h k. packed-greater _ _ h k c.holds_at.ensures c.if-holds_at.false c.holds_at-2.ensures c.if-holds_at-2.false
