use mathlib.Core.Path.{refl, ap, ◌∙◌}
use Prim.Native.Nat.{◌+◌, ◌*◌}
use Rattle.dbd_given.proofs.Apart.{apart-stop, apart_next, apart-end}
use Rattle.dbd_given.proofs.names.are_distinct.Goals as goal

pub returns-then-place_of-ne0 : goal.returns-then-place_of-ne0
returns-then-place_of-ne0 c = apart-stop c.args.names.now c.loop-i.i c.args.n (8 * c.wide-at.result) (8 * c.wide-at.result + 8)
    (ap (◌*◌ 8) c.wide-at.ensures.0) refl c.loop-i-test.true c.place_of.result c.place_of.ensures c.if-place_of-ne0.true ∙ c.loop-i.invariant

pub loop-i-preserved : goal.loop-i-preserved
loop-i-preserved c = apart_next c.args.names.now c.loop-i.i c.args.n (8 * c.wide-at.result) (8 * c.wide-at.result + 8)
    (ap (◌*◌ 8) c.wide-at.ensures.0) refl c.loop-i-test.true c.place_of.result c.place_of.ensures c.if-place_of-ne0.false ∙ c.loop-i.invariant

pub returns : goal.returns
returns c = apart-end c.args.names.now c.loop-i.i c.args.n c.loop-i-test.false ∙ c.loop-i.invariant
