use Rattle.parts.proofs.Written.{all_none, all-some}
use Rattle.parts.proofs.lists.umbristal_list_all.Goals as goal

pub returns-then-used-gt1843 : goal.returns-then-used-gt1843
returns-then-used-gt1843 c = rw (c.spoil.ensures.0, c.spoil.ensures.1)
    (all_none c.args.list.now c.args.used c.args.code c.if-used-gt1843.true)

pub returns : goal.returns
returns c = all-some c.args.list.now c.args.used c.args.code _ c.if-used-gt1843.false c.put_all.ensures
