use borrow.Author.Tests.{lt-ltb, le-ltb}
use Rattle.rules.specs.Listing.{hex_digit}
use Rattle.listing.proofs.text.hex_digit.Goals as goal

pub returns-then-n-lt10 : goal.returns-then-n-lt10
unfolding hex_digit
returns-then-n-lt10 c = rw (lt-ltb c.args.n 10 c.if-n-lt10.true)

pub returns-else-n-lt10 : goal.returns-else-n-lt10
unfolding hex_digit
returns-else-n-lt10 c = rw (le-ltb c.args.n 10 c.if-n-lt10.false)
