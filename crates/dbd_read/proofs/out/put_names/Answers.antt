use Rattle.dbd_read.proofs.HandedOut.{names-put}
use Rattle.dbd_read.proofs.out.put_names.Goals as goal

pub returns : goal.returns
returns c =
    names-put c.args.draft.now c.args.top c.args.last c.requires.counted c.args.names.now c.write.new.block
    c.write-2.new.block c.write-3.new.block c.requires.room c.write.ensures c.write-2.ensures c.write-3.ensures
