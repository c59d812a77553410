use native.Mathlib.Omega.{arith}
use mathlib.Core.Path.{sym, ◌∙◌}
use Rattle.search.proofs.Branches.{level-some}
use Rattle.search.proofs.Climb.{turn-off, turn-kept, turn-named, turn-implied}
use Rattle.search.proofs.stretch.one_up.Goals as goal
use Rattle.search.proofs.stretch.one_up.Goals.{then-is_some-via-then-is_some, then-is_some-via-else-is_some+then-not-is_implied}

pub overflow_sub-result : goal.overflow_sub-result
overflow_sub-result c = omega (
  arith,
  c.requires.2,
  level-some
      c.requires.0.good c.args.c.0
      c.requires.1,
)

pub returns-then-not-agrees : goal.returns-then-not-agrees
returns-then-not-agrees c = turn-off c.requires.0.good c.args.c.0 c.args.l c.args.below
    c.requires.1
    c.requires.2 _ (omega arith)
    (sym c.agrees.ensures ∙ c.if-not-agrees.true)

pub returns-then-is_some : goal.returns-then-is_some
returns-then-is_some c =
    let a = sym c.agrees.ensures ∙ c.if-not-agrees.false in
    elim c.then-is_some.branch [
      | then-is_some-via-then-is_some w ↦ turn-kept c.requires.0.good c.args.c.0 c.args.l c.args.below c.requires.1 c.requires.2 a
          (sym c.is_some.ensures ∙ w.if-is_some.true)
      | then-is_some-via-else-is_some+then-not-is_implied w ↦ turn-named c.requires.0.good c.args.c.0 c.args.l c.args.below c.requires.1 c.requires.2 a
          (sym w.is_implied.ensures ∙ w.if-not-is_implied.true)
    ]

pub returns : goal.returns
returns c = turn-implied c.requires.0.good c.args.c.0 c.args.l c.args.below c.requires.1 c.requires.2
    (sym c.agrees.ensures ∙ c.if-not-agrees.false) (sym c.is_some.ensures ∙ c.if-is_some.false)
    (sym c.is_implied.ensures ∙ c.if-not-is_implied.false)
