use native.Mathlib.Omega.{arith}
use Rattle.arguments.proofs.Short.{sound-short}
use Rattle.arguments.proofs.Sole.{joined-others, joined-own}
use Rattle.arguments.proofs.alone.alone.Goals as goal

pub alone_in-requires : goal.alone_in-requires
alone_in-requires c = (
  c.requires.first,
  omega
      (arith, sound-short c.args.cat.now c.args.one.now c.requires.first),
)

pub returns-in_err-e : goal.returns-in_err-e
returns-in_err-e c = rw c.from_residual.ensures (joined-others c.args.cat.now c.args.one.now c.args.two.now c.args.t c.requires c.alone_in.ensures
    c.in_err-e.was)

pub alone_in-requires-2 : goal.alone_in-requires-2
alone_in-requires-2 c = (
  c.requires.second,
  omega (
    arith,
    sound-short c.args.cat.now c.args.one.now
        c.requires.first,
    sound-short c.args.cat.now
        c.args.two.now c.requires.second,
  ),
)

pub returns : goal.returns
returns c = joined-own c.args.cat.now c.args.one.now c.args.two.now c.args.t c.requires c.alone_in.ensures
    c.in_ok-e.was c.alone_in-2.ensures
