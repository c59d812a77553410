use mathlib.Core.Path.{refl, ◌∙◌}
use native.Mathlib.Omega.{arith}
use Rattle.rules.specs.Catalogue.{types}
use Rattle.dbd_draft.proofs.Judgements.{left-bad, type-asks, type-bad, type-good}
use Rattle.dbd_draft.proofs.Rulings.{type-full}
use Rattle.blocks.proofs.Negated.{told-no, told-yes}
use Rattle.dbd_draft.proofs.segments.add_type.Goals as goal

pub returns-then-top-ge32 : goal.returns-then-top-ge32
unfolding types
returns-then-top-ge32 c = left-bad _ _ _ _ (type-full c.args.draft.now c.args.name.now c.args.above c.args.long c.if-top-ge32.true)

pub good_type-requires : goal.good_type-requires
unfolding types
good_type-requires c =
    type-asks c.args.draft.now c.args.levels.now
    c.requires.sound c.args.name.now c.args.above c.args.long (omega arith)
    c.if-top-ge32.false c.wide.result c.write.new.block
    c.write-2.new.block
    c.wide.ensures.0 c.write.ensures
    c.write-2.ensures _ refl

pub returns-then-not-good_type : goal.returns-then-not-good_type
unfolding types
returns-then-not-good_type c =
    left-bad _ _ _ _ (type-bad c.args.draft.now c.args.levels.now
    c.requires.sound c.args.name.now c.args.above c.args.long (omega arith)
    c.if-top-ge32.false c.wide.result c.write.new.block c.write-2.new.block
    c.wide.ensures.0 c.write.ensures c.write-2.ensures _ refl
    (told-no c.good_type.ensures.0 c.if-not-good_type.true))

pub returns : goal.returns
unfolding types
returns c =
    let g = told-yes c.good_type.ensures.0 c.if-not-good_type.false in type-good c.args.draft.now
    c.args.levels.now c.requires.sound c.args.name.now c.args.above c.args.long
    (omega arith) c.if-top-ge32.false c.wide.result
    c.write.new.block
    c.write-2.new.block
    c.wide.ensures.0 c.write.ensures c.write-2.ensures _ refl g _
    (c.good_type.ensures.1 (c.good_type.ensures.0 ∙ g))
    c.requires.based
