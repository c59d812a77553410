use Rattle.dbd_write.proofs.Joined.{wrote_then, wrote_as}
use Rattle.dbd_write.proofs.Spelling.{segm-written}
use Rattle.statements.specs.Text.{bytes_of}
use native.Mathlib.Omega.{arith}
use Rattle.dbd_write.proofs.lines.put_segm.Goals as goal

pub returns : goal.returns
unfolding bytes_of
returns c = (
  wrote_as (wrote_then c.put_text-a.ensures
      (wrote_then c.put_name-b.ensures.0 (wrote_then c.put_text-c.ensures
      (wrote_then c.put_parent-d.ensures.0
      (wrote_then c.put_text-e.ensures (wrote_then c.put_decimal-f.ensures.0 c.put_text.ensures))))))
      (segm-written c.args.cat.now c.args.names.now c.args.t _ _
      c.wide.ensures.0
      c.data_length.ensures),
  omega (
    arith,
    c.requires.1,
    c.put_text-a.ensures.place,
    c.put_name-b.ensures.1,
    c.put_text-c.ensures.place,
    c.put_parent-d.ensures.1,
    c.put_text-e.ensures.place,
    c.put_decimal-f.ensures.1,
    c.put_text.ensures.place,
  ),
)
