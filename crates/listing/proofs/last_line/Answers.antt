use native.Mathlib.Omega.{arith}
use Rattle.rules.specs.Listing.{last_line}
use Rattle.listing.proofs.Written.{wrote_then}
use Rattle.listing.proofs.last_line.Goals as goal

pub returns : goal.returns
unfolding last_line
returns c = (
  wrote_then c.put_letters-next.ensures.0
      c.put_byte.ensures,
  omega (
    arith,
    c.put_letters-next.ensures.1,
    c.put_byte.ensures.place,
  ),
)
