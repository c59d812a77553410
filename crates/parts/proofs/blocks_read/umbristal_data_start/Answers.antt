use Rattle.parts.proofs.Headers.{start_none, start-some}
use native.Mathlib.Omega.{arith}
use borrow.Author.Rules.{rules}
use Rattle.parts.proofs.blocks_read.umbristal_data_start.Goals as goal

pub returns-then-cell-count : goal.returns-then-cell-count
returns-then-cell-count c = (
  start_none c.args.tab.now c.args.cell c.count.result c.count.ensures.0
      c.if-cell-count.true,
  search rules,
)

pub returns : goal.returns
returns c = (
  start-some c.args.tab.now c.args.cell c.count.result c.start_by_header.result
      c.count.ensures.0 c.if-cell-count.false c.start_by_header.ensures.0,
  omega arith,
)
