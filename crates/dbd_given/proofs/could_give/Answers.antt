use Rattle.std.proofs.Common.{arith}
use Rattle.std.proofs.lemmas.Grind.{common_steps}
use Rattle.dbd_given.proofs.NameList.{block-long, list-long}
use Rattle.dbd_given.proofs.could_give.Goals as goal

pub differ-requires-clause-block : goal.differ-requires-clause-block
differ-requires-clause-block c = grind (arith, common_steps, block-long c.args.cat.now)

pub differ-requires-clause-list : goal.differ-requires-clause-list
differ-requires-clause-list c = grind (arith, common_steps, list-long c.args.cat.now c.args.names.now)
