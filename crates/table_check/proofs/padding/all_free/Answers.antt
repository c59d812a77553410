use mathlib.Core.Path.{◌∙◌}
use Rattle.table_check.proofs.Unused.{free-is}
use Rattle.table_check.proofs.padding.all_free.Goals as goal

pub returns : goal.returns
returns c = c.all_zero.ensures ∙ free-is c.requires c.count.result c.start_of-from.result c.count.ensures.0
    c.start_of-from.ensures.0
