use mathlib.Core.Path.{sym, ◌∙◌}
use mathlib.Core.List.{◌++◌}
use borrow.Author.Tests.{eqb-true, eqb-false}
use Rattle.search.proofs.Plain.{alone-type}
use Rattle.search.proofs.Heeded.{lone-heeding, alone-heeds}
use Rattle.search.proofs.alone.matches_alone.Goals as goal

pub heeds-requires : goal.heeds-requires
heeds-requires c = lone-heeding c.requires.0 c.requires.1 c.args.c.0 c.requires.2 c.code_at.result c.code_at.ensures
    (eqb-true _ _ (sym c.eq.ensures ∙ c.if-eq.true))

pub returns-then-eq : goal.returns-then-eq
returns-then-eq c = alone-heeds c.requires.0 c.requires.1 c.args.c.0 c.requires.2 c.code_at.result c.code_at.ensures
    (eqb-true _ _ (sym c.eq.ensures ∙ c.if-eq.true)) c.heeds.ensures

pub returns-else-eq : goal.returns-else-eq
returns-else-eq c = c.if-eq.false ∙ alone-type c.args.cat.now (c.args.one.now ++ c.args.two.now) c.args.t _ c.code_at.result
    c.code_at.ensures (eqb-false _ _ (sym c.eq.ensures ∙ c.if-eq.false))
