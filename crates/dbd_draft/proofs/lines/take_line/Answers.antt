use Rattle.std.proofs.Common.{rules}
use Rattle.dbd_draft.proofs.Judgements.{left_as}
use Rattle.dbd_draft.proofs.Said.{line-empty, on-empty, on-dbd, on-segm, on-field}
use Rattle.dbd_draft.proofs.lines.take_line.Goals as goal

pub returns-in-Empty : goal.returns-in-Empty
returns-in-Empty c = line-empty _ _ _ c.requires (on-empty _ _ c.line_of.ensures (search rules))

pub take_dbd-requires-clause-word : goal.take_dbd-requires-clause-word
take_dbd-requires-clause-word c = (on-dbd _ _ c.line_of.ensures c.in-IsDbd.name (search rules)).1

pub returns-in-IsSegm : goal.returns-in-IsSegm
returns-in-IsSegm c =
    left_as _ _ _ _ _ c.take_segm.ensures
    (on-segm _ _ c.line_of.ensures _ _ c.requires c.in-IsSegm.name c.in-IsSegm.parent c.in-IsSegm.long (search rules)).2

pub returns-in-IsField : goal.returns-in-IsField
returns-in-IsField c =
    left_as _ _ _ _ _ c.take_field.ensures
    (on-field _ _ c.line_of.ensures _ _ c.requires c.in-IsField.name c.in-IsField.kind c.in-IsField.long c.in-IsField.start (search rules)).1
