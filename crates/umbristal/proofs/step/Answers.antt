use mathlib.Core.Path.{ap, ◌∙◌}
use native.Mathlib.Omega.{arith}
use Rattle.rules.specs.Position.{position_of, position_bytes}
use Rattle.cells.proofs.Ancestry.{sound-known}
use Rattle.gets.proofs.Codes.{on-least}
use Rattle.umbristal.proofs.EmptyList.{sizes-in}
use Rattle.umbristal.proofs.OneStep.{block-good, step-sound, fresh-fits, onto-fits, step-missed, told_none, step-found}
use Rattle.umbristal.proofs.step.Goals as goal

pub bounds-tab-5 : goal.bounds-tab-5
bounds-tab-5 c = (sizes-in c.args.cat.now c.args.tab.now (position_of c.args.pos.now) c.args.list.now c.args.area.now
    c.requires.0).0

pub cell_after-i-requires : goal.cell_after-i-requires
cell_after-i-requires c = block-good c.args.cat.now c.args.tab.now c.args.pos.now c.args.list.now c.args.area.now c.requires.0
    c.requires.1

pub put_position-requires : goal.put_position-requires
put_position-requires c =
    rw c.fresh.ensures (fresh-fits c.args.cat.now c.args.tab.now c.args.pos.now c.args.list.now
    c.args.area.now c.requires.0 c.requires.1 c.cell_after-i.result c.cell_after-i.ensures c.count.result
    c.count.ensures.0)

pub returns-then-count-i : goal.returns-then-count-i
returns-then-count-i c =
    step-missed c.args.cat.now c.args.tab.now c.args.pos.now c.args.list.now c.args.area.now c.requires.0
    c.requires.1 c.cell_after-i.result c.cell_after-i.ensures c.count.result c.count.ensures.0 c.if-count-i.true
    c.refused.result c.put_position.new.block c.refused.ensures
    (c.put_position.ensures ∙ ap position_bytes c.fresh.ensures)

pub is_on-requires : goal.is_on-requires
is_on-requires c =
    block-good c.args.cat.now c.args.tab.now c.args.pos.now c.args.list.now c.args.area.now c.requires.0
    c.requires.1

pub next_status-s-requires : goal.next_status-s-requires
next_status-s-requires c = (
  (step-sound c.args.cat.now c.args.tab.now c.args.pos.now c.args.list.now c.args.area.now
      c.requires.0
      c.requires.1
      c.wide-size.result
      c.wide-size.ensures.0).0.sound,
  omega
      (arith, c.if-count-i.false, c.count.ensures.0),
  on-least
      (position_of c.args.pos.now).place c.is_on.result c.cell_after-i.result
      c.is_on.ensures c.cell_after-i.ensures,
)

pub put_position-requires-2 : goal.put_position-requires-2
put_position-requires-2 c =
    onto-fits c.args.cat.now c.args.tab.now c.args.pos.now c.args.list.now c.args.area.now c.requires.0
    c.requires.1 c.cell_after-i.result c.cell_after-i.ensures c.count.result c.count.ensures.0 c.if-count-i.false
    c.moved_onto-p.result c.moved_onto-p.ensures

pub show-t-requires : goal.show-t-requires
show-t-requires c = (
  (step-sound c.args.cat.now c.args.tab.now c.args.pos.now c.args.list.now c.args.area.now
      c.requires.0
      c.requires.1
      c.wide-size.result c.wide-size.ensures.0).0.sound,
  omega (
    arith,
    c.if-count-i.false,
    c.count.ensures.0,
  ),
  (step-sound c.args.cat.now c.args.tab.now c.args.pos.now c.args.list.now c.args.area.now
      c.requires.0
      c.requires.1
      c.wide-size.result c.wide-size.ensures.0).1,
)

pub told-requires : goal.told-requires
told-requires c = (
  c.requires.0.catalogue,
  rw
      c.show-t.ensures.0 (sound-known
      (step-sound c.args.cat.now c.args.tab.now c.args.pos.now c.args.list.now c.args.area.now
      c.requires.0
      c.requires.1
      c.wide-size.result c.wide-size.ensures.0).0.sound
      c.cell_after-i.result (omega (
        arith,
        c.if-count-i.false,
        c.count.ensures.0,
      ))),
)

pub packed-requires : goal.packed-requires
packed-requires c =
    told_none c.args.cat.now c.args.tab.now c.args.pos.now c.args.list.now c.args.area.now c.requires.0
    c.requires.1 c.cell_after-i.result c.cell_after-i.ensures c.count.result c.count.ensures.0 c.if-count-i.false
    c.is_on.result c.is_on.ensures c.next_status-s.result c.next_status-s.ensures c.show-t.result
    c.show-t.ensures.0 c.show-t.new.area c.show-t.ensures.1 c.moved_onto-p.result c.moved_onto-p.ensures
    c.told.result c.told.ensures

pub returns : goal.returns
returns c =
    step-found c.args.cat.now c.args.tab.now c.args.pos.now c.args.list.now c.args.area.now c.requires.0
    c.requires.1 c.cell_after-i.result c.cell_after-i.ensures c.count.result c.count.ensures.0 c.if-count-i.false
    c.is_on.result c.is_on.ensures c.next_status-s.result c.next_status-s.ensures c.show-t.result
    c.show-t.ensures.0 c.show-t.new.area c.show-t.ensures.1 c.moved_onto-p.result c.moved_onto-p.ensures
    c.told.result c.told.ensures c.packed.result c.put_position-2.new.block
    c.packed.ensures c.put_position-2.ensures
