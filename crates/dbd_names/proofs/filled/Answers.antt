use Rattle.dbd_names.proofs.Named.{filled-over}
use Rattle.dbd_names.proofs.filled.Goals as goal

pub returns : goal.returns
returns c = filled-over c.args.word.now c.copy_from_slice.new.self c.copy_from_slice.ensures.after
