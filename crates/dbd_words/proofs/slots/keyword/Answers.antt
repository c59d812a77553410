use Rattle.dbd_words.proofs.Behind.{keyword}
use Rattle.dbd_words.proofs.slots.keyword.Goals as goal

pub returns : goal.returns
returns c = rw c.then_some.ensures (keyword _ _ _ _ _ c.next_word-from.ensures c.requires.1 c.are_same.ensures)
