use Rattle.catalogue.proofs.Levels.{levels-none}
use Rattle.catalogue.proofs.Hierarchy.{range-type}
use native.Mathlib.Omega.{arith}
use mathlib.Core.Path.{◌∙◌}
use Rattle.search.proofs.Branches.{carried-cell, before-next, turn-found, turn-next, first-none, end-in}
use Rattle.search.proofs.Within.{in-run, past-run}
use Rattle.search.proofs.beneath.forward_beneath.Goals as goal
use Rattle.search.proofs.beneath.forward_beneath.Goals.{else-l-last-via-then-l-last+else-long-last, else-l-last-via-else-l-last}

pub levels-requires : goal.levels-requires
levels-requires c = (c.requires.0.good.catalogue, levels-none c.args.cat.now)

pub level_by-last-requires : goal.level_by-last-requires
level_by-last-requires c = (
  c.requires.0.good.catalogue,
  range-type c.args.cat.now c.args.t c.requires.1.some c.requires.0.good.known,
  c.levels.ensures,
)

pub returns-then-not-is_within : goal.returns-then-not-is_within
returns-then-not-is_within c =
    first-none _ _ _ _ _ (past-run c.args.cat.now c.args.tab.now c.args.p.0 c.loop-i.i
    c.is_within.ensures c.if-not-is_within.true) ∙ c.loop-i.invariant.3

pub stretched-long-requires : goal.stretched-long-requires
stretched-long-requires c = (
  c.requires.0,
  omega (
    arith,
    c.loop-i-test.true,
    c.count-i-end.ensures.0,
  ),
  c.level_at-l.ensures,
  carried-cell
      c.requires.0.good c.loop-i.i
      c.loop-i.long
      (omega (
        arith,
        c.loop-i-test.true,
        c.count-i-end.ensures.0,
      ))
      c.loop-i.invariant.2,
)

pub returns-then-long-last : goal.returns-then-long-last
returns-then-long-last c =
    turn-found c.requires.0.good c.loop-i.i c.level_at-l.result c.stretched-long.result c.level_by-last.result _
    (in-run c.args.cat.now c.args.tab.now c.args.p.0 c.loop-i.i c.is_within.ensures
    c.if-not-is_within.false) (end-in c.requires.0.good c.args.p.0 c.requires.1.cell) c.requires.1.some
    c.level_at-l.ensures c.stretched-long.ensures c.level_by-last.ensures c.if-l-last.true c.if-long-last.true ∙
    c.loop-i.invariant.3

pub loop-i-preserved : goal.loop-i-preserved
loop-i-preserved c = (
  omega (arith, c.loop-i.invariant.0),
  omega (
    arith,
    in-run c.args.cat.now c.args.tab.now c.args.p.0
        c.loop-i.i
        c.is_within.ensures
        c.if-not-is_within.false,
  ),
  before-next
      c.requires.0.good c.loop-i.i
      c.stretched-long.result c.stretched-long.ensures,
  turn-next
      c.requires.0.good c.loop-i.i
      c.level_at-l.result c.stretched-long.result
      c.level_by-last.result _
      (in-run c.args.cat.now c.args.tab.now c.args.p.0
      c.loop-i.i
      c.is_within.ensures
      c.if-not-is_within.false)
      (end-in c.requires.0.good c.args.p.0
      c.requires.1.cell) c.requires.1.some
      c.level_at-l.ensures c.stretched-long.ensures
      c.level_by-last.ensures
      (λ a b. elim c.else-l-last.branch [
        | else-l-last-via-then-l-last+else-long-last w ↦ w.if-long-last.false b
        | else-l-last-via-else-l-last w ↦ w.if-l-last.false a
      ]) ∙
      c.loop-i.invariant.3,
)

pub returns : goal.returns
returns c =
    first-none _ _ _ _ _ (omega (
      arith,
      c.loop-i-test.false,
      c.count-i-end.ensures.0,
      end-in
          c.requires.0.good
          c.args.p.0 c.requires.1.cell,
    )) ∙ c.loop-i.invariant.3
