use mathlib.Core.Path.{ap, sym, ◌∙◌}
use native.Mathlib.Omega.{arith}
use Rattle.answers.specs.Ready.{left}
use Rattle.terms.specs.declared.Answer.{Answer}
use Rattle.rules.specs.Table.{listing}
use Rattle.gets.proofs.Found.{after-in, parent_in, around}
use Rattle.gets.proofs.Codes.{status-is, on-least}
use Rattle.gets.proofs.Gotten.{cell-in-run, cell-within, cell-outside}
use Rattle.gets.proofs.get_next_cell_within.Goals as goal

pub after_place-i-requires : goal.after_place-i-requires
after_place-i-requires c = omega (
  arith,
  after-in c.args.cat.now c.args.tab.now c.args.pos
      c.requires.0.position,
  c.requires.0.sound.sized.few,
)

pub is_within-requires : goal.is_within-requires
is_within-requires c = let a = around c.args.cat.now c.args.tab.now c.args.pos
    c.requires.0.position c.args.p c.requires.2 in (
      c.requires.0.sound,
      omega (arith, a.0, c.after_place-i.ensures),
      omega
          (arith, a.1, c.after_place-i.ensures),
      parent_in c.args.cat.now c.args.tab.now c.args.pos
          c.requires.0.position c.args.p c.requires.2,
    )

pub returns-then-not-is_within : goal.returns-then-not-is_within
returns-then-not-is_within c = ap (λ (r : Answer). left r c.args.area.now) c.missed.ensures ∙ cell-outside c.requires.0 c.args.area.now
    c.args.hold c.after_place-i.result c.after_place-i.ensures c.args.p c.requires.2 c.is_within.result
    c.is_within.ensures c.if-not-is_within.true

pub next_status-s-requires : goal.next_status-s-requires
next_status-s-requires c = (
  c.requires.0.sound,
  cell-in-run _ _ _ _ (parent_in c.args.cat.now c.args.tab.now c.args.pos c.requires.0.position
      c.args.p c.requires.2) (sym c.is_within.ensures ∙ c.if-not-is_within.false),
  on-least c.args.pos.place
      c.is_on.result c.after_place-i.result c.is_on.ensures c.after_place-i.ensures,
)

pub got-requires : goal.got-requires
got-requires c = (
  c.requires.0.sound,
  cell-in-run _ _ _ _ (parent_in c.args.cat.now c.args.tab.now c.args.pos c.requires.0.position
      c.args.p c.requires.2) (sym c.is_within.ensures ∙ c.if-not-is_within.false),
  c.requires.1,
)

pub returns : goal.returns
returns c = c.got.ensures ∙ cell-within c.requires.0 c.args.area.now c.args.hold c.after_place-i.result
    c.after_place-i.ensures c.args.p c.requires.2 c.is_within.result c.is_within.ensures c.next_status-s.result
    c.if-not-is_within.false (c.next_status-s.ensures ∙ status-is c.args.cat.now
    (listing c.args.cat.now c.args.tab.now) c.after_place-i.result c.is_on.result c.args.pos.place
    c.is_on.ensures c.after_place-i.ensures)
