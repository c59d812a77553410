use mathlib.Core.Path.{◌∙◌}
use Rattle.search.proofs.Branches.{first-none}
use Rattle.search.proofs.Plain.{alone-here, alone-next}
use Rattle.search.proofs.alone.forward_alone.Goals as goal

pub returns-then-matches_alone : goal.returns-then-matches_alone
returns-then-matches_alone c = alone-here c.requires.0.good c.requires.2 c.requires.1.plain c.loop-i.i c.args.to c.loop-i-test.true c.requires.3
    c.matches_alone.result c.matches_alone.ensures c.if-matches_alone.true ∙ c.loop-i.invariant

pub loop-i-preserved : goal.loop-i-preserved
loop-i-preserved c = alone-next c.requires.0.good c.requires.2 c.requires.1.plain c.loop-i.i c.args.to c.loop-i-test.true c.requires.3
    c.matches_alone.result c.matches_alone.ensures c.if-matches_alone.false ∙ c.loop-i.invariant

pub returns : goal.returns
returns c = first-none _ _ _ _ _ c.loop-i-test.false ∙ c.loop-i.invariant
