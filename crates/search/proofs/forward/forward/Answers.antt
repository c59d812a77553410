use Rattle.catalogue.proofs.Levels.{levels-none}
use Rattle.catalogue.proofs.Hierarchy.{range-type}
use native.Mathlib.Omega.{arith}
use mathlib.Core.Path.{◌∙◌}
use Rattle.search.proofs.Branches.{carried-cell, before-next, turn-found, turn-next, first-none}
use Rattle.search.proofs.forward.forward.Goals as goal
use Rattle.search.proofs.forward.forward.Goals.{else-l-last-via-then-l-last+else-long-last, else-l-last-via-else-l-last}

pub levels-requires : goal.levels-requires
levels-requires c = (c.requires.0.good.catalogue, levels-none c.args.cat.now)

pub level_by-last-requires : goal.level_by-last-requires
level_by-last-requires c = (
  c.requires.0.good.catalogue,
  range-type c.args.cat.now c.args.t c.requires.1 c.requires.0.good.known,
  c.levels.ensures,
)

pub returns-then-to-i : goal.returns-then-to-i
returns-then-to-i c = first-none _ _ _ _ _ c.if-to-i.true ∙ c.upcoming-i.ensures.3 ∙ c.loop-i.invariant.1

pub stretched-long-requires : goal.stretched-long-requires
stretched-long-requires c = (
  c.requires.0,
  omega (
    arith,
    c.requires.2,
    c.if-to-i.false,
  ),
  c.level_at-l.ensures,
  carried-cell
      c.requires.0.good c.upcoming-i.result
      c.loop-i.long
      (omega (
        arith,
        c.requires.2,
        c.if-to-i.false,
      )) c.upcoming-i.ensures.2,
)

pub returns-then-long-last : goal.returns-then-long-last
returns-then-long-last c =
    turn-found c.requires.0.good c.upcoming-i.result c.level_at-l.result c.stretched-long.result c.level_by-last.result
    c.args.to c.if-to-i.false c.requires.2 c.requires.1 c.level_at-l.ensures c.stretched-long.ensures c.level_by-last.ensures
    c.if-l-last.true c.if-long-last.true ∙ c.upcoming-i.ensures.3 ∙ c.loop-i.invariant.1

pub loop-i-preserved : goal.loop-i-preserved
loop-i-preserved c = (
  before-next c.requires.0.good c.upcoming-i.result c.stretched-long.result c.stretched-long.ensures,
  turn-next c.requires.0.good c.upcoming-i.result c.level_at-l.result c.stretched-long.result c.level_by-last.result
      c.args.to c.if-to-i.false c.requires.2 c.requires.1 c.level_at-l.ensures c.stretched-long.ensures
      c.level_by-last.ensures (λ a b. elim c.else-l-last.branch [
        | else-l-last-via-then-l-last+else-long-last w ↦ w.if-long-last.false b
        | else-l-last-via-else-l-last w ↦ w.if-l-last.false a
      ]) ∙ c.upcoming-i.ensures.3 ∙
      c.loop-i.invariant.1,
)

pub returns : goal.returns
returns c = first-none _ _ _ _ _ c.loop-i-test.false ∙ c.loop-i.invariant.1
