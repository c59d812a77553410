use Rattle.dbd_names.proofs.Named.{put-at}
use Rattle.dbd_names.proofs.write.Goals as goal

pub returns : goal.returns
returns c = put-at c.args.block.now c.args.from.now c.copy_from_slice.new.self c.args.at c.requires c.copy_from_slice.ensures.after
