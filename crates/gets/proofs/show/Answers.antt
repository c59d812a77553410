use mathlib.Core.Path.{◌∙◌}
use Rattle.cells.proofs.Ancestry.{sound-data}
use Rattle.gets.proofs.Gotten.{got-fits, shown-is}
use Rattle.gets.proofs.show.Goals as goal

pub data_part-requires : goal.data_part-requires
data_part-requires c = sound-data c.requires.0 c.requires.1 c.code_at-t.ensures (c.wide-long.ensures.0 ∙ c.data_length.ensures)

pub put-requires : goal.put-requires
put-requires c = got-fits c.requires.0 c.requires.1 c.code_at-t.ensures (c.wide-long.ensures.0 ∙ c.data_length.ensures) c.data_part.ensures
    c.args.area.now c.requires.2

pub returns : goal.returns
returns c = (
  c.code_at-t.ensures,
  shown-is c.requires.0 c.requires.1 c.code_at-t.ensures (c.wide-long.ensures.0 ∙ c.data_length.ensures)
      c.data_part.ensures c.args.area.now c.put.ensures,
)
