use native.Mathlib.Omega.{arith}
use Rattle.cells.proofs.Start.{start-made}
use Rattle.cells.proofs.lookup.start_of.Goals as goal

pub returns : goal.returns
returns c = (
  start-made c.args.tab.now c.args.size c.args.c.0,
  omega (
    arith,
    start-made c.args.tab.now c.args.size c.args.c.0,
    c.requires.within,
  ),
)
