use native.Mathlib.Omega.{arith}
use Rattle.position.proofs.Parts.{good-long, kind-is}
use Rattle.position.proofs.block.is_on.Goals as goal

pub bounds-block-0 : goal.bounds-block-0
bounds-block-0 c = omega (arith, good-long c.args.block.now c.requires)

pub returns : goal.returns
returns c = kind-is c.args.block.now c.requires
