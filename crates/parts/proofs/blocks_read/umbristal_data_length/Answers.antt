use Rattle.parts.proofs.Headers.{long-none, long-cut, long-some}
use native.Mathlib.Omega.{arith}
use mathlib.Core.Path.{sym, ◌∙◌}
use Rattle.parts.proofs.blocks_read.umbristal_data_length.Goals as goal

pub returns-then-not-is_type : goal.returns-then-not-is_type
returns-then-not-is_type c = long-none c.args.cat.now c.args.tab.now c.args.cell c.umbristal_cell_type.result
    c.umbristal_cell_type.ensures (sym c.is_type.ensures ∙ c.if-not-is_type.true)

pub returns-then-tab-umbristal_data_start : goal.returns-then-tab-umbristal_data_start
returns-then-tab-umbristal_data_start c = long-cut c.args.cat.now c.args.tab.now c.args.cell
    c.umbristal_cell_type.result
    c.umbristal_cell_type.ensures
    (sym c.is_type.ensures ∙ c.if-not-is_type.false) c.umbristal_data_start.result
    c.data_length-long.result c.umbristal_data_start.ensures.0
    c.data_length-long.ensures (omega arith)

pub returns : goal.returns
returns c = long-some c.args.cat.now c.args.tab.now c.args.cell
    c.umbristal_cell_type.result
    c.umbristal_cell_type.ensures
    (sym c.is_type.ensures ∙ c.if-not-is_type.false) c.umbristal_data_start.result
    c.data_length-long.result c.umbristal_data_start.ensures.0
    c.data_length-long.ensures (omega arith)
