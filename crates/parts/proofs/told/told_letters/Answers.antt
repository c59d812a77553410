use Rattle.parts.proofs.Letters.{told-blank, told-other}
use Rattle.parts.proofs.told.told_letters.Goals as goal

pub returns-then-status-eq0 : goal.returns-then-status-eq0
returns-then-status-eq0 c = told-blank c.args.status c.if-status-eq0.true

pub returns : goal.returns
returns c = told-other c.args.status c.if-status-eq0.false c.letters_of.ensures
