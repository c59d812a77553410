use Rattle.dbd_write.proofs.Joined.{text-room}
use Rattle.dbd_write.proofs.text.put_text.Goals as goal

pub returns-then-next-out : goal.returns-then-next-out
returns-then-next-out c = text-room _ _ _ _ c.if-next-out.true c.put.ensures
