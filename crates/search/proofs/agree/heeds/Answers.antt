use Rattle.search.proofs.Heeded.{heeds-free, first-testable, heeds-first, second-testable, heeds-second}
use Rattle.search.proofs.agree.heeds.Goals as goal

pub returns-then-e-lt3 : goal.returns-then-e-lt3
returns-then-e-lt3 c = heeds-free c.requires c.if-e-lt3.true

pub passes-requires : goal.passes-requires
passes-requires c = first-testable c.requires c.if-e-lt3.false c.if-e-one.true

pub returns-then-e-one : goal.returns-then-e-one
returns-then-e-one c = heeds-first c.requires c.if-e-lt3.false c.if-e-one.true c.passes.ensures

pub passes-requires-2 : goal.passes-requires-2
passes-requires-2 c = second-testable c.requires c.if-e-lt3.false c.if-e-one.false

pub returns : goal.returns
returns c = heeds-second c.requires c.if-e-lt3.false c.if-e-one.false c.passes-2.ensures
