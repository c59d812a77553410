use Rattle.parts.proofs.Headers.{size_none, size-some}
use Rattle.parts.proofs.blocks_read.umbristal_table_size.Goals as goal

pub returns-then-cells-gt4096 : goal.returns-then-cells-gt4096
returns-then-cells-gt4096 c = size_none c.args.cat.now c.args.cells c.if-cells-gt4096.true

pub returns : goal.returns
returns c = size-some c.args.cat.now c.args.cells c.cell_size.result c.if-cells-gt4096.false c.cell_size.ensures.0
