use mathlib.Core.Path.{refl, ap, ◌∙◌}
use Prim.Native.Nat.{◌+◌, ◌*◌}
use Rattle.dbd_given.proofs.Apart.{own-other, own-stop, own-next, own-end}
use Rattle.dbd_given.proofs.names.own_distinct.Goals as goal
use Rattle.dbd_given.proofs.names.own_distinct.Goals.{else-fields-entry-via-then-fields-entry+else-is_own, else-fields-entry-via-else-fields-entry}

pub returns-then-is_own : goal.returns-then-is_own
returns-then-is_own c = own-stop c.args.fields.now c.args.names.now c.args.t c.loop-i.i c.args.n (4 * c.wide-entry.result)
    (ap (◌*◌ 4) c.wide-entry.ensures.0) c.loop-i-test.true (4 * c.wide-entry.result + 4) (8 * c.wide-at.result) (8 * c.wide-at.result + 8)
    refl (ap (◌*◌ 8) c.wide-at.ensures.0) refl c.if-fields-entry.true c.is_own.result c.is_own.ensures c.if-is_own.true ∙ c.loop-i.invariant

pub loop-i-preserved : goal.loop-i-preserved
loop-i-preserved c = elim c.else-fields-entry.branch [
  | else-fields-entry-via-then-fields-entry+else-is_own w ↦
      own-next c.args.fields.now c.args.names.now c.args.t c.loop-i.i c.args.n (4 * c.wide-entry.result) (ap (◌*◌ 4) c.wide-entry.ensures.0)
      c.loop-i-test.true (4 * c.wide-entry.result + 4) (8 * c.wide-at.result) (8 * c.wide-at.result + 8) refl (ap (◌*◌ 8) c.wide-at.ensures.0) refl
      w.if-fields-entry.true w.is_own.result w.is_own.ensures w.if-is_own.false ∙ c.loop-i.invariant
  | else-fields-entry-via-else-fields-entry w ↦
      own-other c.args.fields.now c.args.names.now c.args.t c.loop-i.i c.args.n (4 * c.wide-entry.result) (ap (◌*◌ 4) c.wide-entry.ensures.0)
      c.loop-i-test.true w.if-fields-entry.false ∙ c.loop-i.invariant
]

pub returns : goal.returns
returns c = own-end c.args.fields.now c.args.names.now c.args.t c.loop-i.i c.args.n c.loop-i-test.false ∙ c.loop-i.invariant
