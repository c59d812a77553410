use native.Mathlib.Omega.{arith}
use Rattle.catalogue.proofs.Hierarchy.{type-range, header-facts}
use Rattle.catalogue.proofs.entries.entry_of.Goals as goal

pub returns : goal.returns
returns c = (
  omega (arith, c.wide.ensures.0),
  omega (
    arith,
    c.wide.ensures.0,
    (header-facts c.args.cat.now c.requires.0).size,
    (type-range
        c.args.cat.now c.args.t c.requires.1).1,
  ),
)
