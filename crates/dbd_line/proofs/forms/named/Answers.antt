use mathlib.Core.List.{[]}
use Rattle.dbd_words.proofs.Behind.{held-on, held-off}
use Rattle.dbd_line.proofs.forms.named.Goals as goal

pub returns-in_err-at : goal.returns-in_err-at
returns-in_err-at c = rw c.from_residual.ensures (held-off [] _ c.in_err-at.ensures)

pub returns : goal.returns
returns c = held-on c.in_ok-at.ensures c.held.ensures
