use Rattle.statements.specs.Text.{bytes_of}
use Rattle.statements.specs.Statement.{word_name}
use Rattle.dbd_words.proofs.Behind.{reached-on, reached-off}
use Rattle.dbd_line.proofs.forms.headed.Goals as goal

pub returns-in_err-at : goal.returns-in_err-at
unfolding word_name bytes_of
returns-in_err-at c = rw c.from_residual.ensures (reached-off _ c.in_err-at.ensures)

pub returns : goal.returns
unfolding word_name bytes_of
returns c = reached-on c.in_ok-at.ensures c.assigned.ensures
