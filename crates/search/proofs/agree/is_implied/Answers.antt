use Rattle.search.proofs.Heeded.{code-few, told-implied}
use Rattle.search.proofs.agree.is_implied.Goals as goal

pub asked_of-requires : goal.asked_of-requires
asked_of-requires c = (c.requires.0.entries.long, code-few c.requires.0 c.args.c.0 c.requires.1 c.code_at.result c.code_at.ensures)

pub returns : goal.returns
returns c = told-implied c.requires.0 c.args.c.0 c.requires.1 c.code_at.result c.code_at.ensures
    c.asked_of.result c.asked_of.ensures c.requires.2
