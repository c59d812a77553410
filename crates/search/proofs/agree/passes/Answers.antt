use native.Mathlib.Omega.{arith}
use Rattle.cells.proofs.Data.{cell-inside}
use Rattle.search.proofs.Fields.{field-data, value_in, places-in, packed-holds, bytes-hold}
use Rattle.search.proofs.agree.passes.Goals as goal

pub start_of-requires : goal.start_of-requires
start_of-requires c =
    cell-inside c.requires.sized _ c.requires.cell

pub holds_at-requires : goal.holds_at-requires
holds_at-requires c =
    places-in c.requires c.entry_of-entry.ensures.0 c.wide-start.ensures.0 c.wide-long.ensures.0 c.start_of.ensures.0

pub returns-then-cat-entry-eq1 : goal.returns-then-cat-entry-eq1
returns-then-cat-entry-eq1 c =
    packed-holds c.requires c.entry_of-entry.ensures.0 c.wide-start.ensures.0 c.wide-long.ensures.0 c.operator_of-o.ensures
    c.if-cat-entry-eq1.true c.start_of.ensures.0 c.holds_at.ensures

pub data_part-field-requires : goal.data_part-field-requires
data_part-field-requires c =
    field-data c.requires c.entry_of-entry.ensures.0 c.wide-start.ensures.0 c.wide-long.ensures.0

pub slice_bounds-order_of-end : goal.slice_bounds-order_of-end
slice_bounds-order_of-end c = omega (
  arith,
  value_in
      c.requires c.entry_of-entry.ensures.0
      c.wide-start.ensures.0 c.wide-long.ensures.0,
)

pub returns : goal.returns
returns c =
    bytes-hold c.requires c.entry_of-entry.ensures.0 c.wide-start.ensures.0 c.wide-long.ensures.0 c.operator_of-o.ensures
    c.if-cat-entry-eq1.false c.data_part-field.ensures c.order_of.ensures c.holds.ensures
