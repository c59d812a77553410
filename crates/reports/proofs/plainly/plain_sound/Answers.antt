use native.Mathlib.Omega.{arith}
use mathlib.Core.Path.{refl}
use mathlib.Core.Logic.{inl, inr}
use Rattle.catalogue.proofs.Levels.{levels-none}
use Rattle.search.proofs.Branches.{carried-cell, before-next}
use Rattle.cells.proofs.Located.{good-housed}
use Rattle.reports.proofs.Given.{given-good, both-pair}
use Rattle.reports.proofs.Tested.{passed_none, passed-next, passed-all}
use Rattle.reports.proofs.Pass.{last-known, met-stretch}
use Rattle.reports.proofs.plainly.plain_sound.Goals as goal
use Rattle.reports.proofs.plainly.plain_sound.Goals.{then-l-last, else-l-last}

pub bounds-tab-5 : goal.bounds-tab-5
bounds-tab-5 c = omega (arith, (good-housed _ _ c.requires.first.sound.table).whole)

pub ask-requires : goal.ask-requires
ask-requires c = (both-pair c.requires, (given-good c.requires.joined _ c.last_type-t.ensures).known, refl)

pub levels-requires : goal.levels-requires
levels-requires c = (c.requires.first.sound.catalogue, levels-none _)

pub level_by-last-requires : goal.level_by-last-requires
level_by-last-requires c =
    (c.requires.first.sound.catalogue, last-known c.requires.joined _ c.last_type-t.ensures, c.levels.ensures)

pub loop-i-init : goal.loop-i-init
loop-i-init c =
    (passed_none c.requires.joined _, refl)

pub stretched-long-requires : goal.stretched-long-requires
stretched-long-requires c = rw c.wide-size.ensures.0 (
  record {
    good = given-good c.requires.joined _ c.last_type-t.ensures;
    pair = both-pair c.requires;
    entries = c.ask.ensures;
  },
  (rw c.count-i-end.ensures.0 at c.loop-i-test.true),
  c.level_at-l.ensures,
  carried-cell
      (given-good c.requires.joined _ c.last_type-t.ensures) c.loop-i.i c.loop-i.long
      (rw c.count-i-end.ensures.0 at c.loop-i-test.true) c.loop-i.invariant.1,
)

pub loop-i-preserved : goal.loop-i-preserved
loop-i-preserved c = (
  passed-next c.requires.joined c.loop-i.invariant.0 _
      (met-stretch c.requires.joined _ c.last_type-t.ensures c.loop-i.i (rw c.count-i-end.ensures.0 at c.loop-i-test.true) _ _
      _ c.level_at-l.ensures c.stretched-long.ensures c.level_by-last.ensures _
      (elim c.if-l-last.branch [
        | then-l-last w ↦ inl (w.if-l-last.true, w.show_met-is)
        | else-l-last w ↦ inr (w.if-l-last.false, w.show_met-is)
      ])) _ _ c.show_met-hits.ensures.0
      c.show_met-hits.ensures.1 (rw c.count-i-end.ensures.0 at c.loop-i-test.true),
  before-next
      (given-good c.requires.joined _ c.last_type-t.ensures) c.loop-i.i _ c.stretched-long.ensures,
)

pub returns : goal.returns
returns c = passed-all c.requires.joined c.loop-i.invariant.0
    (omega (arith, c.count-i-end.ensures.0))
