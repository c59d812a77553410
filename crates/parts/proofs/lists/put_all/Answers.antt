use Rattle.parts.proofs.Written.{two-written}
use Rattle.parts.proofs.lists.put_all.Goals as goal

pub returns : goal.returns
returns c = two-written c.args.list.now c.args.used c.args.code 0 c.requires
