use Rattle.dbd_write.proofs.Joined.{wrote_then, wrote_as}
use Rattle.dbd_write.proofs.Spelling.{name-plain, name-unique, name-multiple}
use Rattle.statements.specs.Text.{bytes_of}
use native.Mathlib.Omega.{arith}
use Rattle.dbd_write.proofs.lines.put_named.Goals as goal

pub returns-then-kind-eq0 : goal.returns-then-kind-eq0
returns-then-kind-eq0 c = (
  wrote_as c.put_name.ensures.0
      (name-plain _ _ c.if-kind-eq0.true),
  omega
      (arith, c.put_name.ensures.1),
)

pub returns-then-kind-eq1 : goal.returns-then-kind-eq1
unfolding bytes_of
returns-then-kind-eq1 c = (
  wrote_as (wrote_then c.put_text-a.ensures
      (wrote_then c.put_name-b.ensures.0
      c.put_text.ensures)) (name-unique _ _ c.if-kind-eq1.true),
  omega (
    arith,
    c.put_text-a.ensures.place,
    c.put_name-b.ensures.1,
    c.put_text.ensures.place,
  ),
)

pub returns : goal.returns
unfolding bytes_of
returns c = (
  wrote_as (wrote_then c.put_text-a.ensures
      (wrote_then c.put_name-b.ensures.0
      c.put_text-2.ensures))
      (name-multiple _ _ c.if-kind-eq0.false c.if-kind-eq1.false),
  omega (
    arith,
    c.put_text-a.ensures.place,
    c.put_name-b.ensures.1,
    c.put_text-2.ensures.place,
  ),
)
