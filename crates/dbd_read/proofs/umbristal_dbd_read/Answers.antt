use mathlib.Core.Path.{refl, ap, ◌∙◌}
use mathlib.Core.List.{◌++◌}
use lib.ListN.{drop, replicate}
use Rattle.rules.specs.Block.{Bytes}
use Rattle.dbd_read.proofs.FreshDraft.{fresh}
use Rattle.dbd_read.proofs.HandedOut.{fault-out, read-into}
use Rattle.dbd_read.proofs.LinesRead.{whole_is, fault-is}
use Rattle.dbd_read.proofs.umbristal_dbd_read.Goals as goal

pub read_lines-requires : goal.read_lines-requires
read_lines-requires c = fresh _ (ap (λ (front : Bytes). front ++ drop 5 (replicate 1296 0)) c.copy_from_slice.ensures.after)

pub returns-in-Ok : goal.returns-in-Ok
returns-in-Ok c = c.hand_out.ensures ∙ read-into _ _ _ _ (whole_is _ _ _ _ c.read_lines.ensures c.in-Ok.is)

pub returns-in-Err : goal.returns-in-Err
returns-in-Err c = fault-out _ _ _ _ _ _ (fault-is _ _ _ _ c.read_lines.ensures c.in-Err.is) c.told_fault.ensures ∙ read-into _ _ _ _ refl
