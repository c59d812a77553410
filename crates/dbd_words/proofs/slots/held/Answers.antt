use Rattle.dbd_words.proofs.Behind.{held}
use Rattle.dbd_words.proofs.slots.held.Goals as goal

pub returns : goal.returns
returns c = rw c.then_some.ensures (held _ _ c.args.slot _ _ c.next_word-w.ensures c.is_suited.ensures)
