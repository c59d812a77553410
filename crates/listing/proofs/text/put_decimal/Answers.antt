use Rattle.rules.specs.Listing.{decimal}
use Rattle.listing.proofs.text.put_decimal.Goals as goal

pub returns : goal.returns
unfolding decimal
returns c = c.put_digits.ensures
