use mathlib.Core.Path.{◌∙◌}
use native.Mathlib.Omega.{arith}
use Rattle.search.proofs.Branches.{first-none, end-in}
use Rattle.search.proofs.Plain.{alone-here, alone-next}
use Rattle.search.proofs.Within.{in-run, past-run}
use Rattle.search.proofs.alone.beneath_alone.Goals as goal

pub returns-then-not-is_within : goal.returns-then-not-is_within
returns-then-not-is_within c = first-none _ _ _ _ _ (past-run c.args.cat.now c.args.tab.now c.args.p.0 c.loop-i.i
    c.is_within.ensures c.if-not-is_within.true) ∙ c.loop-i.invariant.2

pub returns-then-matches_alone : goal.returns-then-matches_alone
returns-then-matches_alone c =
    alone-here c.requires.0.good c.requires.2.some c.requires.1.plain c.loop-i.i _
    (in-run c.args.cat.now c.args.tab.now c.args.p.0 c.loop-i.i c.is_within.ensures
    c.if-not-is_within.false) (end-in c.requires.0.good c.args.p.0 c.requires.2.cell)
    c.matches_alone.result c.matches_alone.ensures c.if-matches_alone.true ∙ c.loop-i.invariant.2

pub loop-i-preserved : goal.loop-i-preserved
loop-i-preserved c = (
  omega (arith, c.loop-i.invariant.0),
  omega (
    arith,
    in-run c.args.cat.now c.args.tab.now c.args.p.0
        c.loop-i.i c.is_within.ensures
        c.if-not-is_within.false,
  ),
  alone-next
      c.requires.0.good
      c.requires.2.some
      c.requires.1.plain
      c.loop-i.i _
      (in-run c.args.cat.now c.args.tab.now c.args.p.0 c.loop-i.i
      c.is_within.ensures c.if-not-is_within.false)
      (end-in c.requires.0.good
      c.args.p.0 c.requires.2.cell) c.matches_alone.result c.matches_alone.ensures c.if-matches_alone.false ∙
      c.loop-i.invariant.2,
)

pub returns : goal.returns
returns c = first-none _ _ _ _ _ (omega (
  arith,
  c.loop-i-test.false,
  c.count-i-end.ensures.0,
  end-in
      c.requires.0.good c.args.p.0
      c.requires.2.cell,
)) ∙ c.loop-i.invariant.2
