use mathlib.Core.Path.{sym}
use Rattle.reports.proofs.Written.{put-room, put-none}
use Rattle.reports.proofs.shown.put_hit.Goals as goal

pub returns-then-at-out : goal.returns-then-at-out
returns-then-at-out c = sym (put-room _ _ _ c.if-at-out.true)

pub returns-else-at-out : goal.returns-else-at-out
returns-else-at-out c = sym (put-none _ _ _ c.if-at-out.false)
