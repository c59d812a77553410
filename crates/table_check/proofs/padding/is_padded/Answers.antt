use mathlib.Core.Path.{◌∙◌}
use native.Mathlib.Omega.{arith}
use borrow.Author.Tests.{le-leb}
use Rattle.cells.proofs.Data.{cell-inside, cell-ends}
use Rattle.table_check.proofs.Unused.{pad-none, pad-some}
use Rattle.table_check.proofs.padding.is_padded.Goals as goal

pub start_of-at-requires : goal.start_of-at-requires
start_of-at-requires c = cell-inside c.requires.0 c.args.i c.requires.1

pub slice_bounds-all_zero-end : goal.slice_bounds-all_zero-end
slice_bounds-all_zero-end c = omega (arith, c.start_of-at.ensures.0, cell-ends c.requires.0 c.args.i c.requires.1)

pub returns-then-size-used : goal.returns-then-size-used
returns-then-size-used c = le-leb _ _ c.if-size-used.true ∙ pad-none c.requires.0 c.args.i c.requires.1 c.code_at.ensures
    (c.wide-used.ensures.0 ∙ c.data_length.ensures) c.if-size-used.true

pub returns-else-size-used : goal.returns-else-size-used
returns-else-size-used c = c.all_zero.ensures ∙ pad-some c.requires.0 c.args.i c.requires.1 c.code_at.ensures
    (c.wide-used.ensures.0 ∙ c.data_length.ensures) c.start_of-at.result c.start_of-at.ensures.0
