use Rattle.dbd_write.proofs.Joined.{wrote_then, wrote_as}
use Rattle.dbd_write.proofs.Spelling.{one-digit, two_digits, three-digits}
use native.Mathlib.Omega.{arith}
use Rattle.dbd_write.proofs.text.put_decimal.Goals as goal

pub returns-then-n-lt10 : goal.returns-then-n-lt10
returns-then-n-lt10 c = (
  wrote_as c.put_digit.ensures
      (one-digit _ c.if-n-lt10.true),
  omega
      (arith, c.put_digit.ensures.place),
)

pub returns-then-n-lt100 : goal.returns-then-n-lt100
returns-then-n-lt100 c = (
  wrote_as (wrote_then c.put_digit-a.ensures
      c.put_digit-then-n-lt100.ensures)
      (two_digits _ c.if-n-lt10.false
      c.if-n-lt100.true),
  omega (
    arith,
    c.put_digit-a.ensures.place,
    c.put_digit-then-n-lt100.ensures.place,
  ),
)

pub returns : goal.returns
returns c = (
  wrote_as (wrote_then c.put_digit-a-2.ensures (wrote_then c.put_digit-b.ensures
      c.put_digit-2.ensures))
      (three-digits c.args.n c.if-n-lt100.false (omega arith)),
  omega (
    arith,
    c.put_digit-a-2.ensures.place,
    c.put_digit-b.ensures.place,
    c.put_digit-2.ensures.place,
  ),
)
