use mathlib.Core.Path.{◌∙◌}
use Rattle.dbd_write.proofs.Joined.{wrote_then, wrote_as}
use Rattle.dbd_write.proofs.Spelling.{field-written}
use Rattle.statements.specs.Text.{bytes_of}
use native.Mathlib.Omega.{arith}
use Rattle.dbd_write.proofs.lines.put_field.Goals as goal

pub returns : goal.returns
unfolding bytes_of
returns c = (
  wrote_as (wrote_then c.put_text-a.ensures
      (wrote_then c.put_named-b.ensures.0 (wrote_then
      c.put_text-c.ensures
      (wrote_then c.put_decimal-d.ensures.0
      (wrote_then c.put_text-e.ensures (wrote_then c.put_decimal-g.ensures.0 c.put_text.ensures))))))
      (field-written c.args.cat.now c.args.names.now c.args.f _ _ _ _ _
      (c.wide.ensures.0 ∙
      c.types.ensures)
      c.wide-2.ensures.0
      c.field_length.ensures
      c.field_start.ensures),
  omega (
    arith,
    c.requires.1,
    c.put_text-a.ensures.place,
    c.put_named-b.ensures.1,
    c.put_text-c.ensures.place,
    c.put_decimal-d.ensures.1,
    c.put_text-e.ensures.place,
    c.put_decimal-g.ensures.1,
    c.put_text.ensures.place,
  ),
)
