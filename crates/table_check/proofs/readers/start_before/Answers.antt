use Rattle.table_check.proofs.Before.{cells_in}
use Rattle.table_check.proofs.readers.start_before.Goals as goal

pub overflow_sub-result : goal.overflow_sub-result
overflow_sub-result c = cells_in c.requires c.wide.result c.wide.ensures.0
