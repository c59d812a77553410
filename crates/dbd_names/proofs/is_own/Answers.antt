use mathlib.Core.Path.{sym, ◌∙◌}
use Rattle.dbd_names.proofs.Named.{is-start, is-here, is-next, is-other, is-end}
use Rattle.dbd_names.proofs.is_own.Goals.{else-fields-k-via-then-fields-k+else-are_same, else-fields-k-via-else-fields-k}
use Rattle.dbd_names.proofs.is_own.Goals as goal

pub loop-i-init : goal.loop-i-init
loop-i-init c = is-start c.args.fields.now c.args.names.now c.args.name.now c.args.t c.args.n

pub returns-then-are_same : goal.returns-then-are_same
returns-then-are_same c =
    is-here c.args.fields.now _ _ c.args.t _ _ _ c.wide-k.ensures.0 c.loop-i-test.true c.if-fields-k.true
    (sym c.if-are_same.true ∙ c.are_same.ensures) ∙ c.loop-i.invariant

pub loop-i-preserved : goal.loop-i-preserved
loop-i-preserved c = elim c.else-fields-k.branch [
  | else-fields-k-via-then-fields-k+else-are_same w ↦
      is-next c.args.fields.now _ _ c.args.t _ _ _ c.wide-k.ensures.0 c.loop-i-test.true w.if-fields-k.true
      (sym w.if-are_same.false ∙ w.are_same.ensures) ∙ c.loop-i.invariant
  | else-fields-k-via-else-fields-k w ↦
      is-other c.args.fields.now c.args.names.now c.args.name.now c.args.t _ _ _ c.wide-k.ensures.0 c.loop-i-test.true w.if-fields-k.false
      ∙ c.loop-i.invariant
]

pub returns : goal.returns
returns c = is-end c.args.fields.now c.args.names.now c.args.name.now c.args.t c.loop-i.i c.args.n c.loop-i-test.false ∙ c.loop-i.invariant
