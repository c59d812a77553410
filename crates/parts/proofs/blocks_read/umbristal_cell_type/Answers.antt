use Rattle.parts.proofs.Headers.{type-none, type-some}
use Rattle.parts.proofs.blocks_read.umbristal_cell_type.Goals as goal

pub returns-then-count-cell : goal.returns-then-count-cell
returns-then-count-cell c = type-none c.args.tab.now c.args.cell c.count.result c.count.ensures.0 c.if-count-cell.true

pub returns : goal.returns
returns c = type-some c.args.tab.now c.args.cell c.count.result c.start_by_header.result _
    c.count.ensures.0 c.if-count-cell.false c.start_by_header.ensures.0 c.byte_at.ensures
