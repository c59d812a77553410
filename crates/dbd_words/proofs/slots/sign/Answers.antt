use Rattle.std.proofs.Common.{arith}
use Rattle.dbd_words.proofs.Behind.{sign-there, sign-missed}
use Rattle.dbd_words.proofs.slots.sign.Goals as goal

pub returns-then-line-i : goal.returns-then-line-i
returns-then-line-i c = sign-there _ _ _ _ c.past_blanks-i.ensures c.requires.1 c.requires.2 c.if-i-line.true c.if-line-i.true

pub returns-else-i-line : goal.returns-else-i-line
returns-else-i-line c = sign-missed _ _ _ _ c.past_blanks-i.ensures (λ l e. grind arith)
