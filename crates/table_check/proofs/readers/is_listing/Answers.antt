use Rattle.table_check.proofs.Told.{told-by}
use Rattle.table_check.proofs.Top.{listing_none, listing-other, listing-headed, listing-read}
use Rattle.table_check.proofs.readers.is_listing.Goals as goal

pub returns-then-n-eq0 : goal.returns-then-n-eq0
returns-then-n-eq0 c = listing_none c.args.cat.now c.args.tab.now c.requires.0 c.count-n.result c.count-n.ensures.0
    c.if-n-eq0.true

pub returns-then-code_at-ne1 : goal.returns-then-code_at-ne1
returns-then-code_at-ne1 c = listing-other c.args.cat.now c.args.tab.now c.requires.0 c.count-n.result c.count-n.ensures.0 c.if-n-eq0.false
    c.code_at.result c.code_at.ensures c.if-code_at-ne1.true

pub group-requires : goal.group-requires
group-requires c =
    listing-headed c.args.cat.now c.args.tab.now c.requires.0 c.count-n.result c.count-n.ensures.0 c.if-n-eq0.false
    (told-by c.requires.0 c.requires.1 c.requires.2 c.fill.ensures c.count-n.ensures.0 c.start_of-end.ensures.0)
    c.code_at.result c.code_at.ensures c.if-code_at-ne1.false

pub returns : goal.returns
returns c =
    listing-read c.args.cat.now c.args.tab.now c.requires.0 c.count-n.result c.count-n.ensures.0 c.if-n-eq0.false
    (told-by c.requires.0 c.requires.1 c.requires.2 c.fill.ensures c.count-n.ensures.0 c.start_of-end.ensures.0)
    c.group.ensures.1
