use Rattle.parts.proofs.Written.{test-written}
use Rattle.parts.proofs.lists.put_test.Goals as goal

pub returns : goal.returns
returns c = test-written c.args.list.now c.args.used c.args.code c.args.operator c.args.field c.args.value.now
    c.requires c.put.new.tail c.put.ensures
