use Rattle.listing.proofs.Lines.{refused-first, refused-long, refused-table}
use Rattle.listing.proofs.listing_refusal.Goals as goal

pub returns-then-number-ne0 : goal.returns-then-number-ne0
returns-then-number-ne0 c = refused-first _ _ _ _ c.check-s.ensures c.number.ensures c.if-number-ne0.true

pub returns-then-tab-gt65536 : goal.returns-then-tab-gt65536
returns-then-tab-gt65536 c = refused-long _ _ _ _ c.check-s.ensures c.number.ensures c.if-number-ne0.false c.if-tab-gt65536.true

pub returns : goal.returns
returns c = refused-table _ _ _ _ c.check-s.ensures c.number.ensures c.if-number-ne0.false c.if-tab-gt65536.false _
    c.check.ensures
