use Rattle.std.proofs.Common.{ap, sym, ◌∙◌, ◌-◌, ◌+◌}
use native.Mathlib.Omega.{arith}
use Rattle.forest.specs.Numbers.{is_in}
use Rattle.forest.specs.Types.{lineage as lineage_over}
use Rattle.rules.specs.Catalogue.{lineage}
use Rattle.catalogue.proofs.Climbing.{climbed-none, climbed-top, above_step, above-here}
use Rattle.catalogue.proofs.lineage.is_above.Goals as goal

pub returns-then-u-eq0 : goal.returns-then-u-eq0
unfolding lineage lineage_over
returns-then-u-eq0 c = sym (ap (is_in c.args.x.0) (climbed-top c.args.cat.now _ _ c.if-u-eq0.true)) ∙ c.loop.invariant

pub returns-then-x-u : goal.returns-then-x-u
unfolding lineage lineage_over
returns-then-x-u c =
    above-here c.args.cat.now _ _ (c.args.t.0 - (c.loop.counter + 1)) _ (omega arith) c.if-u-eq0.false c.if-x-u.true
    ∙ c.loop.invariant

pub loop-preserved : goal.loop-preserved
unfolding lineage lineage_over
loop-preserved c =
    above_step c.args.cat.now _ _ (c.args.t.0 - (c.loop.counter + 1)) _ _ (omega arith) c.if-u-eq0.false c.if-x-u.false c.parent-u.ensures
    ∙ c.loop.invariant

pub returns : goal.returns
unfolding lineage lineage_over
returns c = sym (ap (is_in c.args.x.0) (climbed-none c.args.cat.now _ _ (omega arith))) ∙ c.loop.invariant
