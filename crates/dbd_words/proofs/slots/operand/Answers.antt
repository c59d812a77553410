use Rattle.dbd_words.proofs.Behind.{reached-on, reached-off}
use Rattle.dbd_words.proofs.slots.operand.Goals as goal

pub returns-in_err-behind : goal.returns-in_err-behind
returns-in_err-behind c = rw c.from_residual.ensures (reached-off _ c.in_err-behind.ensures)

pub returns : goal.returns
returns c = reached-on c.in_ok-behind.ensures c.assigned.ensures
