use Rattle.arguments.proofs.Last.{last-second}
use Rattle.arguments.proofs.lookup.last_type.Goals as goal

pub returns : goal.returns
returns c = last-second c.args.cat.now c.args.one.now c.args.two.now c.requires c.if-two-eq0.false c.last_of-2.ensures
