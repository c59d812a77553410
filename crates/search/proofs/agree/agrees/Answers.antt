use mathlib.Core.Path.{ap, ◌∙◌}
use mathlib.Core.Bool.{not}
use borrow.Author.Tests.{eq-eqb}
use Rattle.search.proofs.Heeded.{code-few, agrees-not, told-heeding, agrees-heeds}
use Rattle.search.proofs.agree.agrees.Goals as goal

pub asked_of-e-requires : goal.asked_of-e-requires
asked_of-e-requires c = (c.requires.0.entries.long, code-few c.requires.0 c.args.c.0 c.requires.1 c.code_at.result c.code_at.ensures)

pub returns-else-e-ne0 : goal.returns-else-e-ne0
returns-else-e-ne0 c = ap not (eq-eqb _ 0 c.if-e-ne0.false) ∙ agrees-not c.requires.0 c.args.c.0 c.requires.1 c.code_at.result c.code_at.ensures
    c.asked_of-e.result c.asked_of-e.ensures c.if-e-ne0.false

pub heeds-requires : goal.heeds-requires
heeds-requires c = told-heeding c.requires.0 c.args.c.0 c.requires.1 c.code_at.result c.code_at.ensures c.asked_of-e.result
    c.asked_of-e.ensures c.if-e-ne0.true

pub returns-then-e-ne0 : goal.returns-then-e-ne0
returns-then-e-ne0 c = agrees-heeds c.requires.0 c.args.c.0 c.requires.1 c.code_at.result c.code_at.ensures c.asked_of-e.result
    c.asked_of-e.ensures c.if-e-ne0.true c.heeds.ensures
