use mathlib.Core.Path.{sym, ◌∙◌}
use Rattle.dbd_names.proofs.Named.{place-start, place_here, place-next, place_end}
use Rattle.dbd_names.proofs.place_of.Goals as goal

pub loop-i-init : goal.loop-i-init
loop-i-init c = place-start c.args.names.now c.args.name.now c.args.n

pub returns-then-are_same : goal.returns-then-are_same
returns-then-are_same c =
    place_here _ _ _ _ _ c.wide-k.ensures.0 c.loop-i-test.true (sym c.if-are_same.true ∙ c.are_same.ensures) ∙ c.loop-i.invariant

pub loop-i-preserved : goal.loop-i-preserved
loop-i-preserved c =
    place-next _ _ _ _ _ c.wide-k.ensures.0 c.loop-i-test.true (sym c.if-are_same.false ∙ c.are_same.ensures) ∙ c.loop-i.invariant

pub returns : goal.returns
returns c = place_end c.args.names.now c.args.name.now c.loop-i.i c.args.n c.loop-i-test.false ∙ c.loop-i.invariant
