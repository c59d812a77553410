use native.Mathlib.Omega.{arith}
use Rattle.arguments.proofs.Short.{sound-short}
use Rattle.arguments.proofs.Rows.{row-joined}
use Rattle.arguments.proofs.asked.ask.Goals as goal

pub mark_named-requires : goal.mark_named-requires
mark_named-requires c = (
  c.requires.0.first,
  omega (
    arith,
    sound-short c.args.cat.now c.args.one.now
        c.requires.0.first,
  ),
  c.mark_above.ensures.long,
)

pub mark_named-requires-2 : goal.mark_named-requires-2
mark_named-requires-2 c = (
  c.requires.0.second,
  omega (
    arith,
    sound-short c.args.cat.now c.args.one.now
        c.requires.0.first,
    sound-short c.args.cat.now
        c.args.two.now c.requires.0.second,
  ),
  c.mark_named.ensures.long,
)

pub returns : goal.returns
returns c = row-joined c.args.cat.now c.args.one.now c.args.two.now c.args.t c.requires.0 c.mark_above.ensures
    c.mark_named.ensures c.mark_named-2.ensures
