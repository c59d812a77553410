use native.Mathlib.Omega.{arith}
use Rattle.position.proofs.Parts.{good-long, after_is}
use Rattle.position.proofs.block.cell_after.Goals as goal

pub bounds-block-2 : goal.bounds-block-2
bounds-block-2 c = omega (arith, good-long c.args.block.now c.requires)

pub bounds-block-0 : goal.bounds-block-0
bounds-block-0 c = omega (arith, good-long c.args.block.now c.requires)

pub bounds-block-1 : goal.bounds-block-1
bounds-block-1 c = omega (arith, good-long c.args.block.now c.requires)

pub returns : goal.returns
returns c = omega (
  arith,
  after_is c.args.block.now c.requires,
  c.wide.ensures.0,
  c.wide-2.ensures.0,
  c.wide-3.ensures.0,
)
