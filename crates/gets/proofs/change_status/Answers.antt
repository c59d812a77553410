use Rattle.catalogue.proofs.Levels.{levels-none}
use mathlib.Core.Path.{sym, ◌∙◌}
use Rattle.std.specs.declared.cmp.Ordering.TheVariants.{Less, Equal, Greater}
use Rattle.std.specs.Cmp.{ranked}
use borrow.Author.Tests.{eqb-true, eqb-false}
use Rattle.gets.proofs.Codes.{codes_same, codes-child, codes-sibling, levels-less, levels-more, levels-same}
use Rattle.gets.proofs.change_status.Goals as goal

pub returns-then-eq : goal.returns-then-eq
returns-then-eq c = codes_same c.args.cat.now c.args.u c.args.t (eqb-true _ _ (sym c.eq.ensures ∙ c.if-eq.true))

pub returns-then-eq-2 : goal.returns-then-eq-2
returns-then-eq-2 c = codes-child c.args.cat.now c.args.u c.args.t c.requires.0 c.parent-above.result c.parent-above.ensures c.requires.2
    (eqb-true _ _ (sym c.eq-2.ensures ∙ c.if-eq-2.true))

pub returns-then-eq-3 : goal.returns-then-eq-3
returns-then-eq-3 c = codes-sibling c.args.cat.now c.args.u c.args.t c.requires.0 c.parent-above.result c.parent-above.ensures c.requires.2
    c.parent.result c.parent.ensures c.requires.1 (eqb-false _ _ (sym c.eq.ensures ∙ c.if-eq.false)) (eqb-true _ _ (sym c.eq-3.ensures ∙ c.if-eq-3.true))

pub levels-requires : goal.levels-requires
levels-requires c =
    (c.requires.0, levels-none c.args.cat.now)

pub returns-in-Less : goal.returns-in-Less
returns-in-Less c = levels-less c.args.cat.now c.args.u c.args.t c.level_by-2.result c.level_by.result
    c.level_by-2.ensures c.level_by.ensures (ranked _ _ Less (sym c.in-Less.is ∙ c.cmp.ensures))

pub returns-in-Equal : goal.returns-in-Equal
returns-in-Equal c = levels-same c.args.cat.now c.args.u c.args.t c.level_by-2.result c.level_by.result
    c.level_by-2.ensures c.level_by.ensures (eqb-false _ _ (sym c.eq.ensures ∙ c.if-eq.false)) (ranked _ _ Equal (sym c.in-Equal.is ∙ c.cmp.ensures))

pub returns-in-Greater : goal.returns-in-Greater
returns-in-Greater c = levels-more c.args.cat.now c.args.u c.args.t c.level_by-2.result c.level_by.result
    c.level_by-2.ensures c.level_by.ensures (ranked _ _ Greater (sym c.in-Greater.is ∙ c.cmp.ensures))
