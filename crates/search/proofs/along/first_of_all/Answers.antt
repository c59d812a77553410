use native.Mathlib.Omega.{arith}
use Rattle.search.proofs.Branches.{first-none, all-match}
use Rattle.search.proofs.Plain.{lone-own}
use Rattle.search.proofs.along.first_of_all.Goals as goal

pub returns-then-n-eq0 : goal.returns-then-n-eq0
returns-then-n-eq0 c = first-none _ _ _ _ _ (omega (arith, c.if-n-eq0.true, c.count-n.ensures.0))

pub returns-then-t-eq0 : goal.returns-then-t-eq0
returns-then-t-eq0 c = all-match c.requires.good 0 _
    c.if-t-eq0.true (omega (arith, c.if-n-eq0.false, c.count-n.ensures.0))

pub forward_alone-requires : goal.forward_alone-requires
forward_alone-requires c = (
  record {
    good =
        c.requires.good;
    pair =
        c.requires.pair;
  },
  lone-own c.requires.good (omega arith) _ _ c.alone.ensures c.in-Some.is,
  omega arith,
  omega
      (arith, c.count-n.ensures.0),
)
