use Rattle.update.proofs.Parts.{cell-written}
use Rattle.update.proofs.moves.write_cell.Goals as goal

pub returns : goal.returns
returns c = cell-written c.args.cell.now c.args.from.now c.put.new.tail c.clear.new.tail c.args.t.0 c.requires
    c.put.ensures c.clear.ensures
