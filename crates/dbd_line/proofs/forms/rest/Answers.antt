use mathlib.Core.Path.{refl, sym, ◌∙◌}
use mathlib.Core.Bool.{true, false}
use Rattle.statements.specs.Text.{bytes_of}
use Rattle.statements.specs.Statement.{word_bytes, word_start, word_type, span_form}
use Rattle.dbd_words.proofs.Behind.{reached-held, held-after}
use Rattle.dbd_line.proofs.Told.{is_number_held, span-none, span-told}
use Rattle.dbd_line.proofs.forms.rest.Goals as goal

pub returns-in_err-bytes : goal.returns-in_err-bytes
unfolding word_bytes word_start word_type bytes_of span_form
returns-in_err-bytes c = rw c.from_residual.ensures (span-none _ (reached-held c.in_err-bytes.ensures) refl)

pub returns-in_err-first : goal.returns-in_err-first
unfolding word_bytes word_start word_type bytes_of span_form
returns-in_err-first c = rw c.from_residual-in_err-first.ensures (span-none _ (reached-held (held-after c.in_ok-bytes.ensures
    c.in_err-first.ensures)) refl)

pub returns-in_err-letter : goal.returns-in_err-letter
unfolding word_bytes word_start word_type bytes_of span_form
returns-in_err-letter c = rw c.from_residual-in_err-letter.ensures (span-none _ (reached-held (held-after (held-after c.in_ok-bytes.ensures
    c.in_ok-first.ensures) c.in_err-letter.ensures)) refl)

pub returns-then-not-ends : goal.returns-then-not-ends
unfolding word_bytes word_start word_type bytes_of span_form
returns-then-not-ends c = span-told c.in_ok-bytes.ensures c.in_ok-first.ensures c.in_ok-letter.ensures _ _ refl refl false
    (sym c.if-not-ends.true ∙ c.ends.ensures)

pub number-long-requires : goal.number-long-requires
number-long-requires c = is_number_held c.in_ok-bytes.ensures

pub number-start-requires : goal.number-start-requires
number-start-requires c = is_number_held c.in_ok-first.ensures

pub returns : goal.returns
unfolding word_bytes word_start word_type bytes_of span_form
returns c = span-told c.in_ok-bytes.ensures c.in_ok-first.ensures c.in_ok-letter.ensures _ _ c.number-long.ensures
    c.number-start.ensures true (sym c.if-not-ends.false ∙ c.ends.ensures)
