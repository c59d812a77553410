use Rattle.search.proofs.Branches.{root-past}
use Rattle.search.proofs.forward.upcoming.Goals as goal

pub returns : goal.returns
returns c = root-past c.requires.0 c.args.from c.args.k c.args.to c.next_root.result c.requires.2 c.requires.1
    c.if-k-ne0.false c.requires.3 c.next_root.ensures
