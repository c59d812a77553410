use mathlib.Core.Path.{refl, sym, ◌∙◌}
use mathlib.Core.Bool.{true, false}
use Rattle.statements.specs.Text.{bytes_of}
use Rattle.statements.specs.Statement.{word_segm, word_name, word_parent, word_bytes, segm_form}
use Rattle.dbd_words.proofs.Behind.{reached-held, held-after}
use Rattle.dbd_line.proofs.Row.{unformed}
use Rattle.dbd_line.proofs.Told.{is_number_held, segm-told}
use Rattle.dbd_line.proofs.forms.segm.Goals as goal

pub returns-in_err-name : goal.returns-in_err-name
unfolding word_segm word_name word_parent word_bytes bytes_of segm_form
returns-in_err-name c = rw c.from_residual.ensures (unformed _ (reached-held c.in_err-name.ensures))

pub returns-in_err-parent : goal.returns-in_err-parent
unfolding word_segm word_name word_parent word_bytes bytes_of segm_form
returns-in_err-parent c = rw c.from_residual-in_err-parent.ensures (unformed _ (reached-held (held-after c.in_ok-name.ensures
    c.in_err-parent.ensures)))

pub returns-in_err-long : goal.returns-in_err-long
unfolding word_segm word_name word_parent word_bytes bytes_of segm_form
returns-in_err-long c = rw c.from_residual-in_err-long.ensures (unformed _ (reached-held (held-after (held-after c.in_ok-name.ensures
    c.in_ok-parent.ensures) c.in_err-long.ensures)))

pub returns-then-not-ends : goal.returns-then-not-ends
unfolding word_segm word_name word_parent word_bytes bytes_of segm_form
returns-then-not-ends c = segm-told c.in_ok-name.ensures c.in_ok-parent.ensures c.in_ok-long.ensures _ refl false
    (sym c.if-not-ends.true ∙ c.ends.ensures)

pub number-bytes-requires : goal.number-bytes-requires
number-bytes-requires c = is_number_held c.in_ok-long.ensures

pub returns : goal.returns
unfolding word_segm word_name word_parent word_bytes bytes_of segm_form
returns c = segm-told c.in_ok-name.ensures c.in_ok-parent.ensures c.in_ok-long.ensures _ c.number-bytes.ensures true
    (sym c.if-not-ends.false ∙ c.ends.ensures)
