use Rattle.statements.specs.Text.{bytes_of}
use Rattle.statements.specs.Statement.{word_field, word_name, field_form}
use Rattle.dbd_words.proofs.Behind.{reached-held}
use Rattle.dbd_line.proofs.Row.{unformed}
use Rattle.dbd_line.proofs.Told.{field-none, field-told}
use Rattle.dbd_line.proofs.forms.field.Goals as goal

pub returns-in_err-name : goal.returns-in_err-name
unfolding word_field word_name bytes_of field_form
returns-in_err-name c = rw c.from_residual.ensures (unformed _ (reached-held c.in_err-name.ensures))

pub returns-in_err-e : goal.returns-in_err-e
unfolding word_field word_name bytes_of
returns-in_err-e c = rw c.from_residual-in_err-e.ensures (field-none c.in_ok-name.ensures c.in_err-e.ensures)

pub returns : goal.returns
unfolding word_field word_name bytes_of
returns c = field-told c.in_ok-name.ensures c.in_ok-e.ensures
