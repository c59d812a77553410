use native.Mathlib.Omega.{arith}
use Rattle.rules.specs.Catalogue.{types}
use Rattle.catalogue.proofs.Hierarchy.{header-facts}
use Rattle.catalogue.proofs.fields.entry_of.Goals as goal

pub bounds-cat-5 : goal.bounds-cat-5
bounds-cat-5 c = omega (arith, (header-facts c.args.cat.now c.requires.0).size)

pub returns : goal.returns
unfolding types
returns c = (
  omega (arith, c.wide.ensures.0, c.wide-2.ensures.0),
  omega (
    arith,
    c.wide.ensures.0,
    c.wide-2.ensures.0,
    (header-facts c.args.cat.now
        c.requires.0).size,
    c.requires.2,
  ),
)
