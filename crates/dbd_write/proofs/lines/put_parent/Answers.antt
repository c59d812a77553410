use Rattle.dbd_write.proofs.Joined.{wrote_as}
use Rattle.dbd_write.proofs.Spelling.{parent-none, parent-named}
use Rattle.statements.specs.Text.{bytes_of}
use native.Mathlib.Omega.{arith}
use Rattle.dbd_write.proofs.lines.put_parent.Goals as goal

pub returns-then-above-eq0 : goal.returns-then-above-eq0
unfolding bytes_of
returns-then-above-eq0 c = (
  wrote_as c.put_text.ensures
      (parent-none c.args.cat.now c.args.names.now c.args.t
      c.parent-above.result
      c.parent-above.ensures
      c.if-above-eq0.true),
  omega
      (arith, c.put_text.ensures.place),
)

pub returns : goal.returns
returns c = let ·args = c.args
    in (
      wrote_as c.put_name.ensures.0 (parent-named ·args.cat.now ·args.names.now ·args.t c.parent-above.result
          c.parent-above.ensures _ c.wide.ensures.0 c.if-above-eq0.false),
      c.put_name.ensures.1,
    )
