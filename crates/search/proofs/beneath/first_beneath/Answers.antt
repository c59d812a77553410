use native.Mathlib.Omega.{arith}
use Rattle.search.proofs.Branches.{before-cell, end-in}
use Rattle.search.proofs.Plain.{lone-own}
use Rattle.search.proofs.Heeded.{filled-told}
use Rattle.search.proofs.beneath.first_beneath.Goals as goal

pub beneath_alone-requires : goal.beneath_alone-requires
beneath_alone-requires c = (c.requires.0, lone-own c.requires.0.good c.requires.1.some _ _ c.alone.ensures c.in-Some.is, c.requires.1)

pub path_to-before-requires : goal.path_to-before-requires
path_to-before-requires c = (
  filled-told c.requires.0
      c.ask.ensures,
  omega (
    arith,
    c.requires.1.later,
    c.requires.1.most,
    end-in c.requires.0.good
        c.args.p.0 c.requires.1.cell,
  ),
)

pub forward_beneath-requires : goal.forward_beneath-requires
forward_beneath-requires c = (
  filled-told c.requires.0 c.ask.ensures,
  c.requires.1,
  before-cell c.requires.0.good c.args.from c.path_to-before.result
      (λ z. omega (
        arith,
        c.requires.1.later,
      )) c.path_to-before.ensures,
)
