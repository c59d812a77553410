use Rattle.statements.specs.Text.{bytes_of}
use Rattle.statements.specs.Statement.{word_field, word_name, word_seq, key_form}
use Rattle.dbd_words.proofs.Behind.{reached-on, reached-held, held-on}
use Rattle.dbd_line.proofs.Row.{unformed}
use Rattle.dbd_line.proofs.Told.{key-name, key-seq, key-letter, key-none, key-unique, key-multiple}
use Rattle.dbd_line.proofs.forms.key.Goals as goal

pub returns-in_err-at : goal.returns-in_err-at
unfolding word_field word_name word_seq bytes_of key_form
returns-in_err-at c = rw c.from_residual.ensures (unformed _ c.in_err-at.ensures)

pub returns-in_err-at-2 : goal.returns-in_err-at-2
unfolding word_field word_name word_seq bytes_of key_form
returns-in_err-at-2 c = rw c.from_residual-in_err-at-2.ensures (unformed _ (reached-on c.in_ok-at.ensures c.in_err-at-2.ensures))

pub returns-in_err-name : goal.returns-in_err-name
unfolding word_field word_name word_seq bytes_of key_form
returns-in_err-name c = rw c.from_residual-in_err-name.ensures (unformed _ (reached-held (held-on (reached-on c.in_ok-at.ensures
    c.in_ok-at-2.ensures) c.in_err-name.ensures)))

pub returns-in_err-at-3 : goal.returns-in_err-at-3
unfolding word_field word_name word_seq bytes_of key_form
returns-in_err-at-3 c = rw c.from_residual-in_err-at-3.ensures (unformed _ (reached-on (reached-held (key-name c.in_ok-at.ensures
    c.in_ok-at-2.ensures c.in_ok-name.ensures)) c.in_err-at-3.ensures))

pub returns-in_err-at-4 : goal.returns-in_err-at-4
unfolding word_field word_name word_seq bytes_of key_form
returns-in_err-at-4 c = rw c.from_residual-in_err-at-4.ensures (unformed _ (reached-on (reached-on (reached-held (key-name c.in_ok-at.ensures
    c.in_ok-at-2.ensures c.in_ok-name.ensures)) c.in_ok-at-3.ensures) c.in_err-at-4.ensures))

pub returns-in_err-at-5 : goal.returns-in_err-at-5
unfolding word_field word_name word_seq bytes_of key_form
returns-in_err-at-5 c = rw c.from_residual-in_err-at-5.ensures (unformed _ (reached-on (key-seq c.in_ok-at.ensures c.in_ok-at-2.ensures
    c.in_ok-name.ensures c.in_ok-at-3.ensures c.in_ok-at-4.ensures) c.in_err-at-5.ensures))

pub returns-in_err-letter : goal.returns-in_err-letter
unfolding word_field word_name word_seq bytes_of key_form
returns-in_err-letter c = rw c.from_residual-in_err-letter.ensures (unformed _ (reached-held (held-on (reached-on (key-seq c.in_ok-at.ensures
    c.in_ok-at-2.ensures c.in_ok-name.ensures c.in_ok-at-3.ensures c.in_ok-at-4.ensures) c.in_ok-at-5.ensures) c.in_err-letter.ensures)))

pub returns-in_err-at-6 : goal.returns-in_err-at-6
unfolding word_field word_name word_seq bytes_of key_form
returns-in_err-at-6 c = rw c.from_residual-in_err-at-6.ensures (unformed _ (reached-on (reached-held (key-letter c.in_ok-at.ensures
    c.in_ok-at-2.ensures c.in_ok-name.ensures c.in_ok-at-3.ensures c.in_ok-at-4.ensures c.in_ok-at-5.ensures c.in_ok-letter.ensures))
    c.in_err-at-6.ensures))

pub returns-in_err-e : goal.returns-in_err-e
unfolding word_field word_name word_seq bytes_of
returns-in_err-e c = rw c.from_residual-in_err-e.ensures (key-none c.in_ok-at.ensures c.in_ok-at-2.ensures c.in_ok-name.ensures
    c.in_ok-at-3.ensures c.in_ok-at-4.ensures c.in_ok-at-5.ensures c.in_ok-letter.ensures c.in_ok-at-6.ensures c.in_err-e.ensures)

pub returns-then-line-letter-eq85 : goal.returns-then-line-letter-eq85
unfolding word_field word_name word_seq bytes_of
returns-then-line-letter-eq85 c = key-unique c.in_ok-at.ensures c.in_ok-at-2.ensures c.in_ok-name.ensures c.in_ok-at-3.ensures c.in_ok-at-4.ensures
    c.in_ok-at-5.ensures c.in_ok-letter.ensures c.in_ok-at-6.ensures c.in_ok-e.ensures c.if-line-letter-eq85.true

pub returns-else-line-letter-eq85 : goal.returns-else-line-letter-eq85
unfolding word_field word_name word_seq bytes_of
returns-else-line-letter-eq85 c = key-multiple c.in_ok-at.ensures c.in_ok-at-2.ensures c.in_ok-name.ensures c.in_ok-at-3.ensures
    c.in_ok-at-4.ensures c.in_ok-at-5.ensures c.in_ok-letter.ensures c.in_ok-at-6.ensures c.in_ok-e.ensures c.if-line-letter-eq85.false
