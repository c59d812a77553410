use Rattle.dbd_words.proofs.Spans.{next_word}
use Rattle.dbd_words.proofs.words.next_word.Goals as goal

pub returns : goal.returns
returns c = next_word c.args.line.now c.args.at _ c.past_blanks-from.ensures c.word_end-to.ensures
