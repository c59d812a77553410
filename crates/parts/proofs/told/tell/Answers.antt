use Rattle.parts.proofs.Letters.{told-whole}
use borrow.Author.Rules.{rules}
use Rattle.parts.proofs.told.tell.Goals as goal

pub returns : goal.returns
returns c = told-whole c.args.res c.umbristal_status-status.result _ _ _
    c.umbristal_removed-removed.result
    c.told_letters-two.result (search rules)
    c.umbristal_status-status.ensures
    c.told_letters-two.ensures
    c.umbristal_type.ensures c.umbristal_level.ensures
    c.umbristal_length.ensures c.umbristal_removed-removed.ensures
