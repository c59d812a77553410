use mathlib.Core.Path.{sym, ◌∙◌}
use Rattle.cells.proofs.Data.{key-data}
use Rattle.table_check.proofs.Stored.{cell-unknown, cell-known}
use Rattle.table_check.proofs.keys.is_keyed_cell.Goals as goal

pub data_part-requires : goal.data_part-requires
data_part-requires c = key-data c.requires.1 c.requires.0 c.requires.2 c.code_at-t.ensures (sym c.if-is_type.ensures)
    (c.wide-start.ensures.0 ∙ c.key_start.ensures) (c.wide-long.ensures.0 ∙ c.key_length.ensures)

pub returns-then-is_type : goal.returns-then-is_type
returns-then-is_type c = c.is_value.ensures ∙ cell-known c.requires.1 c.requires.2 c.code_at-t.ensures c.requires.0 (sym c.if-is_type.ensures)
    (c.wide-start.ensures.0 ∙ c.key_start.ensures) (c.wide-long.ensures.0 ∙ c.key_length.ensures) c.key_value.ensures c.data_part.ensures

pub returns-else-is_type : goal.returns-else-is_type
returns-else-is_type c = c.if-is_type.false ∙ cell-unknown c.requires.1 c.requires.2 c.code_at-t.ensures (sym c.if-is_type.ensures)
