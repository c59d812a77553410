use Rattle.statements.specs.Text.{bytes_of}
use Rattle.statements.specs.Statement.{word_dbd, word_name, dbd_form}
use Rattle.dbd_words.proofs.Behind.{reached-held}
use Rattle.dbd_line.proofs.Row.{unformed}
use Rattle.dbd_line.proofs.Told.{dbd-told}
use Rattle.dbd_line.proofs.forms.dbd.Goals as goal

pub returns-in_err-name : goal.returns-in_err-name
unfolding word_dbd word_name bytes_of dbd_form
returns-in_err-name c = rw c.from_residual.ensures (unformed _ (reached-held c.in_err-name.ensures))

pub returns : goal.returns
unfolding word_dbd word_name bytes_of dbd_form
returns c = rw c.then_some.ensures (dbd-told c.in_ok-name.ensures _ c.ends.ensures)
