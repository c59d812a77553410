use mathlib.Core.Path.{refl}
use native.Mathlib.Omega.{arith}
use Rattle.search.proofs.Branches.{first-none, all-match, before-cell, before-matched}
use Rattle.search.proofs.Plain.{lone-own}
use Rattle.search.proofs.Heeded.{filled-told}
use Rattle.search.proofs.forward.first_match.Goals as goal
use Rattle.search.proofs.forward.first_match.Goals.{then-from-eq0, else-from-eq0+then-again, else-from-eq0+else-again}

pub returns-then-to-from : goal.returns-then-to-from
returns-then-to-from c = first-none _ _ _ _ _ c.if-to-from.true

pub returns-then-t-eq0 : goal.returns-then-t-eq0
returns-then-t-eq0 c = all-match c.requires.0.good c.args.from c.args.to c.if-t-eq0.true c.if-to-from.false

pub forward_alone-requires : goal.forward_alone-requires
forward_alone-requires c = (
  c.requires.0,
  lone-own
      c.requires.0.good (omega arith) _ _ c.alone.ensures c.in-Some.is,
  omega arith,
  c.requires.1,
)

pub forward-requires : goal.forward-requires
forward-requires c = (
  filled-told c.requires.0 c.ask.ensures,
  omega arith,
  c.requires.1,
  elim c.if-from-eq0.branch [
    | then-from-eq0 w ↦ rw (w.k-is, w.if-from-eq0.true)
    | else-from-eq0+then-again w ↦
        rw w.k-is (before-matched c.requires.0.good c.args.from _ (omega (arith, c.requires.1, c.if-to-from.false)) (omega arith)
        w.if-from-eq0.false (c.requires.2 w.if-again.true) refl)
    | else-from-eq0+else-again w ↦
        rw w.k-is (before-cell c.requires.0.good c.args.from w.path_to.result w.if-from-eq0.false w.path_to.ensures)
  ],
)
