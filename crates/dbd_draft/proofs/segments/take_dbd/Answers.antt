use mathlib.Core.Path.{ap, ◌∙◌}
use lib.Seq.{sets}
use Rattle.dbd_draft.proofs.Judgements.{left-bad, dbd-again, dbd-taken}
use Rattle.dbd_draft.proofs.segments.take_dbd.Goals as goal

pub returns-then-draft-ne0 : goal.returns-then-draft-ne0
returns-then-draft-ne0 c = left-bad _ _ _ _ (dbd-again c.args.draft.now c.args.word.now c.requires.sound.long c.if-draft-ne0.true)

pub returns : goal.returns
returns c = dbd-taken c.args.draft.now c.args.levels.now c.requires.sound c.args.word.now c.requires.word _
    (c.write.ensures ∙ ap (sets c.args.draft.now 520) c.filled-name.ensures) c.if-draft-ne0.false
