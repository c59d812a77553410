use mathlib.Core.Path.{◌∙◌}
use native.Mathlib.Omega.{arith}
use Rattle.cells.proofs.Data.{cell-inside}
use Rattle.twins.proofs.Keys.{order-unkeyed, compared-cell, compared-area, compared-in, order-bytes, order-packed}
use Rattle.twins.proofs.key_order_with.Goals as goal

pub returns-then-start-eq0 : goal.returns-then-start-eq0
returns-then-start-eq0 c = order-unkeyed c.requires.0 c.requires.2 c.requires.3 c.entry_of-entry.ensures.0 c.wide-start.ensures.0 c.if-start-eq0.true

pub start_of-requires : goal.start_of-requires
start_of-requires c =
    cell-inside c.requires.0.sound.sized _ c.requires.2

pub packed_order_with-requires : goal.packed_order_with-requires
packed_order_with-requires c =
    compared-in c.requires.0 c.requires.2 c.requires.3 c.entry_of-entry.ensures.0 c.wide-start.ensures.0 c.wide-long.ensures.0
    c.start_of.ensures.0

pub returns-then-cat-entry-eq1 : goal.returns-then-cat-entry-eq1
returns-then-cat-entry-eq1 c =
    order-packed c.requires.0 c.requires.2 c.requires.3 c.entry_of-entry.ensures.0 c.wide-start.ensures.0 c.wide-long.ensures.0
    c.if-start-eq0.false c.requires.1 c.if-cat-entry-eq1.true c.start_of.ensures.0 c.packed_order_with.ensures

pub slice_bounds-order_of-end : goal.slice_bounds-order_of-end
slice_bounds-order_of-end c = omega (
  arith,
  compared-area
      c.requires.0
      c.requires.2
      c.requires.3
      c.entry_of-entry.ensures.0
      c.wide-start.ensures.0 c.wide-long.ensures.0,
)

pub data_part-requires : goal.data_part-requires
data_part-requires c =
    compared-cell c.requires.0 c.requires.2 c.requires.3 c.entry_of-entry.ensures.0 c.wide-start.ensures.0 c.wide-long.ensures.0

pub returns : goal.returns
returns c =
    c.order_of.ensures ∙ order-bytes c.requires.0 c.requires.2 c.requires.3 c.entry_of-entry.ensures.0 c.wide-start.ensures.0
    c.wide-long.ensures.0 c.if-start-eq0.false c.if-cat-entry-eq1.false c.data_part.ensures
