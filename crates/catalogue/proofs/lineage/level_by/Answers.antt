use Rattle.catalogue.proofs.Levels.{type-few, type-level}
use Rattle.catalogue.proofs.lineage.level_by.Goals as goal

pub bounds-row-wide : goal.bounds-row-wide
bounds-row-wide c = type-few c.args.cat.now c.requires.0 c.args.row.now c.requires.2 c.args.t c.requires.1 c.wide.result
    c.wide.ensures.0

pub returns : goal.returns
returns c = type-level c.args.cat.now c.requires.0 c.args.row.now c.requires.2 c.args.t c.requires.1 c.wide.result
    c.wide.ensures.0
