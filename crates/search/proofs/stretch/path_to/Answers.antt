use native.Mathlib.Omega.{arith}
use mathlib.Core.Path.{sym, ◌∙◌}
use Rattle.search.proofs.Branches.{parent-some}
use Rattle.search.proofs.Climb.{climb-start, climb-end, climb-up, parent-level}
use Rattle.search.proofs.stretch.path_to.Goals as goal

pub loop-p-init : goal.loop-p-init
loop-p-init c = (c.requires.1, c.level_of-l.ensures, climb-start c.requires.0.good c.args.c.0 c.requires.1 _ c.level_of-l.ensures)

pub returns-in_default : goal.returns-in_default
returns-in_default c = climb-end c.requires.0.good c.loop-p.at.0 c.loop-p.invariant.0 _ (sym c.in_default.is ∙ c.parent_of.ensures) ∙
    c.one_up-below.ensures ∙ c.loop-p.invariant.2

pub overflow_sub-l : goal.overflow_sub-l
overflow_sub-l c = omega (
  arith,
  c.loop-p.invariant.1,
  parent-level
      c.requires.0.good
      c.loop-p.at.0 c.loop-p.invariant.0 _
      (sym c.in-Some.is ∙ c.parent_of.ensures),
)

pub loop-p-smaller : goal.loop-p-smaller
loop-p-smaller c = omega (
  arith,
  (parent-some _ _ _ _
      (sym c.in-Some.is ∙ c.parent_of.ensures)).0,
)

pub loop-p-preserved : goal.loop-p-preserved
loop-p-preserved c = (
  omega (
    arith,
    c.loop-p.invariant.0,
    (parent-some _ _ _ _
        (sym c.in-Some.is ∙ c.parent_of.ensures)).0,
  ),
  omega (
    arith,
    c.loop-p.invariant.1,
    parent-level
        c.requires.0.good
        c.loop-p.at.0 c.loop-p.invariant.0 _
        (sym c.in-Some.is ∙ c.parent_of.ensures),
  ),
  climb-up
      c.requires.0.good
      c.loop-p.at.0 c.loop-p.invariant.0 _
      _ (sym c.in-Some.is ∙ c.parent_of.ensures) ∙
      c.one_up-below.ensures ∙ c.loop-p.invariant.2,
)
