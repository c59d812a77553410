use native.Mathlib.Omega.{arith}
use Rattle.listing.proofs.Written.{wrote_none, wrote_then, wrote_as, hex-turn, hex-none}
use Rattle.listing.proofs.text.put_hex.Goals as goal

pub loop-b-init : goal.loop-b-init
loop-b-init c = (omega arith, wrote_none _ _ _ (hex-none c.args.from.now))

pub loop-b-preserved : goal.loop-b-preserved
loop-b-preserved c = (
  omega (arith, c.put_byte-next.ensures.place, c.put_byte-next-in-loop-b.ensures.place),
  wrote_as (wrote_then c.loop-b.invariant.1 (wrote_then c.put_byte-next.ensures c.put_byte-next-in-loop-b.ensures))
      (hex-turn c.args.from.now c.loop-b.b-index _ _ c.loop-b-test.true c.hex_digit.ensures c.hex_digit-in-loop-b.ensures),
)
