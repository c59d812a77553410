use native.Mathlib.Omega.{arith}
use Rattle.cells.proofs.Data.{cell-inside, cell-ends, code_of}
use Rattle.cells.proofs.lookup.code_at.Goals as goal

pub start_of-at-requires : goal.start_of-at-requires
start_of-at-requires c = cell-inside c.requires.0 c.args.c.0 c.requires.1

pub bounds-tab-at : goal.bounds-tab-at
bounds-tab-at c = omega (
  arith,
  c.start_of-at.ensures.0,
  c.requires.0.some,
  cell-ends
      c.requires.0 c.args.c.0 c.requires.1,
)

pub returns : goal.returns
returns c = code_of c.requires.0 c.args.c.0 c.requires.1 c.start_of-at.result c.start_of-at.ensures.0
