use Rattle.changes.proofs.Spots.{above-later, above_within}
use Rattle.changes.proofs.insert.is_one_of_row.Goals as goal

pub returns-then-p-q : goal.returns-then-p-q
returns-then-p-q c = above-later c.args.cat.now c.args.tab.now c.args.p.0 c.requires.1 c.args.parentage _ c.in-Some.is
    c.if-p-q.true

pub returns : goal.returns
returns c =
    above_within c.args.cat.now c.args.tab.now c.args.p.0 c.requires.1 c.args.parentage _ _
    c.in-Some.is c.if-p-q.false c.run_end.ensures
