use native.Mathlib.Omega.{arith}
use Rattle.listing.proofs.Written.{wrote_none, wrote_then, wrote_as, digits-none, digits-one, digits_more}
use Rattle.listing.proofs.text.+put_digits.Goals as goal

pub returns-then-k-eq0 : goal.returns-then-k-eq0
returns-then-k-eq0 t c = (wrote_none _ _ _ (digits-none _ _ c.if-k-eq0.true), omega arith)

pub returns-then-n-lt10 : goal.returns-then-n-lt10
returns-then-n-lt10 t c = (
  wrote_as c.put_byte.ensures (digits-one _ _ c.if-k-eq0.false c.if-n-lt10.true),
  omega (arith, c.put_byte.ensures.place),
)

pub returns : goal.returns
returns t c = (
  wrote_as (wrote_then c.put_digits-next.ensures.0 c.put_byte-2.ensures) (digits_more _ _ c.if-k-eq0.false c.if-n-lt10.false),
  omega (arith, c.put_digits-next.ensures.1, c.put_byte-2.ensures.place),
)
