use mathlib.Core.Path.{◌∙◌}
use Rattle.table_check.proofs.Before.{fits_next, last-in, next-in, both-cut}
use Rattle.table_check.proofs.readers.key_order.Goals as goal

pub start_before-requires-2 : goal.start_before-requires-2
start_before-requires-2 c = fits_next c.requires

pub slice_bounds-order_of-end : goal.slice_bounds-order_of-end
slice_bounds-order_of-end c = last-in c.requires c.start_before.ensures c.start_before-2.ensures c.fact-from.ensures.0
    c.fact-long.ensures.0

pub slice_bounds-order_of-end-2 : goal.slice_bounds-order_of-end-2
slice_bounds-order_of-end-2 c = next-in c.requires c.start_before.ensures c.start_before-2.ensures c.fact-from.ensures.0 c.fact-long.ensures.0

pub returns : goal.returns
returns c = c.order_of.ensures ∙ both-cut c.requires c.start_before.ensures c.start_before-2.ensures c.fact-from.ensures.0
    c.fact-long.ensures.0
