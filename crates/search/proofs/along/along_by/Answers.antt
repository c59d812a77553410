use Rattle.catalogue.proofs.Hierarchy.{range-type}
use native.Mathlib.Omega.{arith}
use mathlib.Core.Path.{sym, ◌∙◌}
use Rattle.search.proofs.Branches.{good-sound, kept-place, kept-list, kept-before, kept-beneath, along-none, along-here, along-beneath}
use Rattle.search.proofs.along.along_by.Goals as goal

pub returns-in_default : goal.returns-in_default
returns-in_default c = c.first_of_all.ensures ∙ along-none c.requires.0.good c.args.place
    (sym c.in_default.is ∙ c.kept.ensures)

pub level_of-l-requires : goal.level_of-l-requires
level_of-l-requires c = (
  good-sound c.requires.0.good,
  (kept-place c.requires.0.good c.args.place _ c.requires.1
      (sym c.in-Some.is ∙ c.kept.ensures)).0,
)

pub level-requires : goal.level-requires
level-requires c = (
  c.requires.0.good.catalogue,
  range-type c.args.cat.now c.args.t
      (kept-list c.requires.0.good _ (kept-place c.requires.0.good c.args.place _ c.requires.1
      (sym c.in-Some.is ∙ c.kept.ensures))) c.requires.0.good.known,
)

pub returns-then-l-level : goal.returns-then-l-level
returns-then-l-level c =
    along-here c.requires.0.good c.args.place _ c.level_of-l.result (sym c.in-Some.is ∙ c.kept.ensures)
    c.level_of-l.ensures (c.if-l-level.true ∙ c.level.ensures)

pub overflow_add-c : goal.overflow_add-c
overflow_add-c c =
    omega (
      arith,
      (kept-place c.requires.0.good c.args.place _ c.requires.1 (sym c.in-Some.is ∙
          c.kept.ensures)).0,
      c.requires.0.good.sized.few,
    )

pub forward_beneath-requires : goal.forward_beneath-requires
forward_beneath-requires c =
    (let w = kept-place c.requires.0.good c.args.place _ c.requires.1 (sym c.in-Some.is ∙ c.kept.ensures) in (
      c.requires.0,
      kept-beneath c.requires.0.good _ w,
      kept-before c.requires.0.good _ c.level_of-l.result w
          c.level_of-l.ensures,
    ))

pub returns : goal.returns
returns c =
    c.forward_beneath.ensures ∙ along-beneath c.requires.0.good c.args.place _ c.level_of-l.result
    (sym c.in-Some.is ∙ c.kept.ensures) c.level_of-l.ensures (λ e. c.if-l-level.false (e ∙ sym c.level.ensures))
