use mathlib.Core.Path.{refl, ap, sym, ◌∙◌}
use native.Mathlib.Omega.{arith}
use Rattle.answers.specs.Ready.{left}
use Rattle.terms.specs.declared.Answer.{Answer}
use Rattle.terms.specs.declared.Status.TheVariants.{Blank}
use Rattle.rules.specs.Table.{listing}
use Rattle.rules.specs.Arguments.{complete, list_read}
use Rattle.rules.specs.Cells.{end_at}
use Rattle.search.proofs.Branches.{end-in}
use Rattle.gets.proofs.Found.{after-in, first-in, parent_in}
use Rattle.gets.proofs.Gotten.{search-good, within-empty, search-beneath, within-found, within-missed, status-named}
use borrow.Author.Tests.{eqb-true, eqb-false}
use mathlib.Core.List.{◌++◌}
use Rattle.gets.proofs.get_next_within.Goals as goal

pub returns-then-are_empty : goal.returns-then-are_empty
returns-then-are_empty c = c.get_next_cell_within.ensures ∙ within-empty c.requires.0 c.args.area.now c.args.hold
    (eqb-true _ _ (sym c.are_empty.ensures ∙ c.if-are_empty.true))

pub after_place-from-requires : goal.after_place-from-requires
after_place-from-requires c =
    omega (
      arith,
      after-in c.args.cat.now c.args.tab.now c.args.pos
          c.requires.0.position,
      c.requires.0.sound.sized.few,
    )

pub first_beneath-requires : goal.first_beneath-requires
first_beneath-requires c = (
  record {
    good = search-good c.requires.0 c.last_type-t.result c.last_type-t.ensures;
    pair =
        c.requires.1;
  },
  search-beneath c.requires.0 c.last_type-t.result c.last_type-t.ensures
      (eqb-false _ _ (sym c.are_empty.ensures ∙ c.if-are_empty.false)) c.in-Some.p c.in-Some.is
      c.after_place-from.result c.after_place-from.ensures,
)

pub returns-in_default-first_beneath : goal.returns-in_default-first_beneath
returns-in_default-first_beneath c =
    ap (λ (r : Answer). left r c.args.area.now) c.missed-in_default-first_beneath.ensures ∙ within-missed c.requires.0 c.args.area.now
    c.args.hold c.last_type-t.result c.first_beneath.result c.last_type-t.ensures c.after_place-from.result
    c.after_place-from.ensures _ c.first_beneath.ensures c.in-Some.p c.in-Some.is refl
    c.in_default-first_beneath.is

pub got-requires : goal.got-requires
got-requires c = (
  c.requires.0.sound,
  omega (
    arith,
    first-in c.args.cat.now (listing c.args.cat.now c.args.tab.now)
        (complete c.args.cat.now (c.args.one.now ++ c.args.two.now)
        (list_read c.args.cat.now (c.args.one.now ++ c.args.two.now)).arguments
        c.last_type-t.result)
        c.after_place-from.result
        (end_at c.args.cat.now (listing c.args.cat.now c.args.tab.now)
        c.in-Some.p.0)
        c.in-Some-first_beneath.c (sym c.first_beneath.ensures ∙
        c.in-Some-first_beneath.is),
    end-in (search-good
        c.requires.0 c.last_type-t.result
        c.last_type-t.ensures)
        c.in-Some.p.0
        (parent_in c.args.cat.now c.args.tab.now c.args.pos
        c.requires.0.position
        c.in-Some.p
        c.in-Some.is),
  ),
  c.requires.2,
)

pub returns : goal.returns
returns c = c.got.ensures ∙ within-found c.requires.0 c.args.area.now c.args.hold c.last_type-t.result
    c.first_beneath.result c.last_type-t.ensures c.after_place-from.result c.after_place-from.ensures _
    c.first_beneath.ensures c.in-Some.p c.in-Some-first_beneath.c Blank c.in-Some.is refl
    c.in-Some-first_beneath.is (status-named c.requires.0 c.in-Some-first_beneath.c.0
    (eqb-false _ _ (sym c.are_empty.ensures ∙ c.if-are_empty.false)))
