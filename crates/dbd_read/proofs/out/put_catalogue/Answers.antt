use Rattle.dbd_read.proofs.HandedOut.{catalogue-put}
use Rattle.dbd_read.proofs.out.put_catalogue.Goals as goal

pub returns : goal.returns
returns c =
    let ·args = c.args
    in
    catalogue-put ·args.draft.now ·args.top ·args.last c.requires.counted ·args.cat.now c.write.new.block
    c.write-2.new.block c.requires.room c.write.ensures c.write-2.ensures
