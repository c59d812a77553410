use mathlib.Core.Path.{ap, sym, ◌∙◌}
use native.Mathlib.Omega.{arith}
use Rattle.answers.specs.Ready.{left}
use Rattle.terms.specs.declared.Answer.{Answer}
use Rattle.terms.specs.declared.Status.TheVariants.{Blank, GE}
use Rattle.rules.specs.Table.{listing}
use Rattle.rules.specs.Arguments.{complete, list_read}
use Rattle.rules.proofs.Cells.{listing-length}
use Rattle.gets.proofs.Found.{after-in, first-in}
use Rattle.gets.proofs.Gotten.{search-good, next-empty, next-found, next-missed, miss-named, status-named}
use Rattle.gets.proofs.Again.{again-continued}
use borrow.Author.Tests.{eqb-true, eqb-false}
use mathlib.Core.List.{◌++◌}
use Rattle.gets.proofs.get_next.Goals as goal

pub returns-then-are_empty : goal.returns-then-are_empty
returns-then-are_empty c = c.get_next_cell.ensures ∙ next-empty c.requires.0 c.args.area.now c.args.hold
    (eqb-true _ _ (sym c.are_empty.ensures ∙ c.if-are_empty.true))

pub after_place-from-requires : goal.after_place-from-requires
after_place-from-requires c = omega (
  arith,
  after-in c.args.cat.now c.args.tab.now c.args.pos
      c.requires.0.position,
  c.requires.0.sound.sized.few,
)

pub first_match-requires : goal.first_match-requires
first_match-requires c = (
  record {
    good = search-good c.requires.0 c.last_type-t.result c.last_type-t.ensures;
    pair =
        c.requires.1;
  },
  omega
      (arith, c.count.ensures.0),
  λ e. again-continued c.args.cat.now c.args.tab.now
      (c.args.one.now ++ c.args.two.now) c.args.pos c.last_type-t.result
      c.last_type-t.ensures c.after_place-from.result c.after_place-from.ensures
      (c.requires.3 e),
)

pub returns-in_default : goal.returns-in_default
returns-in_default c =
    ap (λ (r : Answer). left r c.args.area.now) c.missed.ensures ∙ next-missed c.requires.0 c.args.area.now
    c.args.hold c.last_type-t.result c.first_match.result c.last_type-t.ensures c.after_place-from.result
    c.after_place-from.ensures c.count.result c.first_match.ensures GE
    (c.count.ensures.0 ∙ sym (listing-length c.args.cat.now c.args.tab.now)) c.in_default.is
    (miss-named c.requires.0 (eqb-false _ _ (sym c.are_empty.ensures ∙ c.if-are_empty.false)))

pub got-requires : goal.got-requires
got-requires c = (
  c.requires.0.sound,
  omega (
    arith,
    first-in c.args.cat.now (listing c.args.cat.now c.args.tab.now)
        (complete c.args.cat.now (c.args.one.now ++ c.args.two.now)
        (list_read c.args.cat.now (c.args.one.now ++ c.args.two.now)).arguments
        c.last_type-t.result)
        c.after_place-from.result
        c.count.result c.in-Some.c
        (sym c.first_match.ensures ∙ c.in-Some.is),
    c.count.ensures.0,
  ),
  c.requires.2,
)

pub returns : goal.returns
returns c = c.got.ensures ∙ next-found c.requires.0 c.args.area.now c.args.hold c.last_type-t.result c.first_match.result
    c.last_type-t.ensures c.after_place-from.result c.after_place-from.ensures c.count.result c.first_match.ensures
    c.in-Some.c Blank (c.count.ensures.0 ∙ sym (listing-length c.args.cat.now c.args.tab.now))
    c.in-Some.is (status-named c.requires.0 c.in-Some.c.0
    (eqb-false _ _ (sym c.are_empty.ensures ∙ c.if-are_empty.false)))
