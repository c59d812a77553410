use mathlib.Core.Path.{ap, ◌∙◌}
use native.Mathlib.Omega.{arith}
use Rattle.answers.specs.Ready.{left}
use Rattle.terms.specs.declared.Answer.{Answer}
use Rattle.gets.proofs.Found.{after-in}
use Rattle.gets.proofs.Codes.{status-is}
use Rattle.rules.specs.Table.{listing}
use Rattle.gets.proofs.Gotten.{cell-found, cell-missed}
use Rattle.gets.proofs.get_next_cell.Goals as goal

pub after_place-i-requires : goal.after_place-i-requires
after_place-i-requires c = omega (
  arith,
  after-in c.args.cat.now c.args.tab.now c.args.pos
      c.requires.0.position,
  c.requires.0.sound.sized.few,
)

pub returns-then-count-i : goal.returns-then-count-i
returns-then-count-i c = ap (λ (r : Answer). left r c.args.area.now) c.missed.ensures ∙ cell-missed c.requires.0 c.args.area.now
    c.args.hold c.after_place-i.result c.after_place-i.ensures c.count.result c.count.ensures.0
    c.if-count-i.true

pub returns : goal.returns
returns c = c.got.ensures ∙ cell-found c.requires.0 c.args.area.now c.args.hold c.after_place-i.result c.after_place-i.ensures
    c.count.result c.count.ensures.0 c.next_status-s.result c.if-count-i.false
    (c.next_status-s.ensures ∙ status-is c.args.cat.now (listing c.args.cat.now c.args.tab.now)
    c.after_place-i.result c.is_on.result c.args.pos.place c.is_on.ensures c.after_place-i.ensures)
