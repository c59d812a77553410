use Prim.Native.Nat.{◌-◌}
use native.Mathlib.Omega.{arith}
use Rattle.dbd_write.proofs.Joined.{wrote_none, wrote_then, wrote_as}
use Rattle.dbd_write.proofs.Growing.{types-none, types_more, types-all}
use Rattle.dbd_write.proofs.whole.put_statements.Goals as goal

pub loop-number-init : goal.loop-number-init
loop-number-init c = (omega arith, omega arith, wrote_as (wrote_none _ _) (types-none c.args.cat.now c.args.names.now))

pub loop-number-preserved : goal.loop-number-preserved
loop-number-preserved c = (
  omega arith,
  omega (arith, c.put_segm-next.ensures.1, c.put_fields-next.ensures.1),
  wrote_as (wrote_then c.loop-number.invariant.2 (wrote_then c.put_segm-next.ensures.0 c.put_fields-next.ensures.0))
      (types_more c.args.cat.now c.args.names.now (c.loop-number.number - 1) _ c.loop-number.number (omega arith) (omega arith)),
)

pub returns : goal.returns
returns c = (
  wrote_as (wrote_then c.put_dbd-next.ensures.0 c.loop-number.invariant.2)
      (types-all c.args.cat.now c.args.names.now (c.loop-number.number - 1) _ c.types-number-end.ensures (omega arith)),
  omega (arith, c.requires.0.few, c.put_dbd-next.ensures.1, c.types-number-end.ensures),
)

pub returns-2 : goal.returns-2
returns-2 c =
    let more = types_more c.args.cat.now c.args.names.now (c.loop-number.number - 1) c.loop-number.number c.loop-number.number (omega arith) (omega arith) in (
      wrote_as (wrote_then c.put_dbd-next.ensures.0 (wrote_as
          (wrote_then c.loop-number.invariant.2 (wrote_then c.put_segm-next.ensures.0 c.put_fields-next.ensures.0)) more))
          (types-all c.args.cat.now c.args.names.now c.loop-number.number _ c.types-number-end.ensures (omega arith)),
      omega (arith, c.requires.0.few, c.put_dbd-next.ensures.1, c.types-number-end.ensures, c.put_segm-next.ensures.1, c.put_fields-next.ensures.1),
    )
