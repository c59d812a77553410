use Rattle.dbd_write.proofs.Joined.{wrote_then, wrote_as}
use Rattle.dbd_write.proofs.Spelling.{dbd-line}
use Rattle.statements.specs.Text.{bytes_of}
use Rattle.statements.specs.Dbd.{name_at}
use native.Mathlib.Omega.{arith}
use Rattle.dbd_write.proofs.lines.put_dbd.Goals as goal

pub returns : goal.returns
unfolding bytes_of name_at
returns c = (
  wrote_as (wrote_then c.put_text-a.ensures (wrote_then
      c.put_name-b.ensures.0
      c.put_text.ensures)) (dbd-line _),
  omega (
    arith,
    c.put_text-a.ensures.place,
    c.put_name-b.ensures.1,
    c.put_text.ensures.place,
  ),
)
