use mathlib.Core.Path.{◌∙◌}
use Prim.Native.Nat.{◌-◌}
use native.Mathlib.Omega.{arith}
use Rattle.dbd_write.proofs.Joined.{wrote_none, wrote_then, wrote_as}
use Rattle.dbd_write.proofs.Growing.{fields-none, fields-more, fields-same, fields-all}
use Rattle.dbd_write.proofs.whole.put_fields.Goals as goal
use Rattle.dbd_write.proofs.whole.put_fields.Goals.{then-field_type-t, else-field_type-t}

pub loop-number-init : goal.loop-number-init
loop-number-init c = (omega arith, omega arith, wrote_as (wrote_none _ _) (fields-none c.args.cat.now c.args.names.now c.args.t))

pub loop-number-preserved : goal.loop-number-preserved
loop-number-preserved c =
    let done = c.loop-number.number - 1 in
    elim c.if-field_type-t.branch [
      | then-field_type-t w ↦ rw (w.next-is, w.out-is) (
        omega arith,
        omega (arith, w.put_field-next.ensures.1),
        wrote_as (wrote_then c.loop-number.invariant.2 w.put_field-next.ensures.0) (fields-more c.args.cat.now c.args.names.now c.args.t done _ _ _
            c.field_type.result (omega arith) (omega arith) c.field_type.ensures w.if-field_type-t.true w.kind_shown-kind.ensures),
      )
      | else-field_type-t w ↦ rw (w.next-is, w.out-is) (
        omega arith,
        omega arith,
        wrote_as c.loop-number.invariant.2 (fields-same c.args.cat.now c.args.names.now c.args.t done _ c.loop-number.number
            c.field_type.result (omega arith) (omega arith) c.field_type.ensures w.if-field_type-t.false),
      )
    ]

pub returns : goal.returns
returns c = (
  wrote_as c.loop-number.invariant.2
      (fields-all c.args.cat.now c.args.names.now c.args.t (c.loop-number.number - 1) _ c.fields-number-end.ensures (omega arith)),
  omega (arith, c.requires.0.few_fields, c.fields-number-end.ensures),
)

pub returns-after-field_type-t : goal.returns-after-field_type-t
returns-after-field_type-t c =
    let done = c.loop-number.number - 1 in
    let last = c.loop-number.number in
    let all = fields-all c.args.cat.now c.args.names.now c.args.t last _ c.fields-number-end.ensures (omega arith) in
    elim c.if-field_type-t.branch [
      | then-field_type-t w ↦ rw (w.next-is, w.out-is) (
        wrote_as (wrote_then c.loop-number.invariant.2 w.put_field-next.ensures.0) (fields-more c.args.cat.now c.args.names.now c.args.t done last _ _
            c.field_type.result (omega arith) (omega arith) c.field_type.ensures w.if-field_type-t.true w.kind_shown-kind.ensures ∙ all),
        omega (arith, c.requires.0.few_fields, c.fields-number-end.ensures, w.put_field-next.ensures.1),
      )
      | else-field_type-t w ↦ rw (w.next-is, w.out-is) (
        wrote_as c.loop-number.invariant.2 (fields-same c.args.cat.now c.args.names.now c.args.t done last last
            c.field_type.result (omega arith) (omega arith) c.field_type.ensures w.if-field_type-t.false ∙ all),
        omega (arith, c.requires.0.few_fields, c.fields-number-end.ensures),
      )
    ]
