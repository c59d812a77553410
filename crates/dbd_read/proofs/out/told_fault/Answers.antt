use Rattle.std.proofs.Common.{rules}
use Rattle.dbd_read.proofs.HandedOut.{high-capped}
use Rattle.dbd_read.proofs.out.told_fault.Goals as goal

pub returns : goal.returns
returns c = let h = high-capped _ _ c.min-line.ensures in rw h (search rules)
