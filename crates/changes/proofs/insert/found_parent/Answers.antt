use Rattle.changes.proofs.Spots.{parented-top, parented-none, parented-child}
use Rattle.changes.proofs.Parent.{place-ready, parent-ready, parent-levels, parent_in}
use Rattle.rules.proofs.Cells.{listing-length}
use Rattle.rules.specs.Table.{listing}
use native.Mathlib.Omega.{arith}
use mathlib.Core.Path.{sym, ◌∙◌}
use Rattle.search.proofs.OneList.{asking-alone, along-alone}
use Rattle.changes.proofs.insert.found_parent.Goals as goal

pub returns-then-t-eq1 : goal.returns-then-t-eq1
returns-then-t-eq1 c = parented-top c.args.cat.now (listing c.args.cat.now c.args.tab.now) c.args.pos c.args.t _
    c.if-t-eq1.true _ (c.count.ensures.0 ∙ sym (listing-length c.args.cat.now c.args.tab.now))

pub along-requires : goal.along-requires
along-requires c = (
  asking-alone (parent-ready c.requires.0 c.requires.1 c.requires.2 c.parent.ensures),
  place-ready c.requires.0 c.requires.1
      c.requires.2,
)

pub returns-in_err-p : goal.returns-in_err-p
returns-in_err-p c = rw c.from_residual.ensures (parented-none c.args.cat.now (listing c.args.cat.now c.args.tab.now) c.args.pos c.args.t _ c.if-t-eq1.false
    (parent-levels c.requires.0 c.requires.1 c.requires.2 c.parent.ensures
    (sym c.in_err-p.was ∙ along-alone _ _ _ _ _ c.along.ensures)))

pub run_end-end-requires : goal.run_end-end-requires
run_end-end-requires c = (
  c.requires.0.sound,
  parent_in c.requires.0 c.requires.1 c.requires.2 c.parent.ensures c.if-t-eq1.false
      (sym c.in_ok-p.was ∙ along-alone _ _ _ _ _ c.along.ensures),
)

pub is_one_of_row-beneath-requires : goal.is_one_of_row-beneath-requires
is_one_of_row-beneath-requires c = (
  c.requires.0.sound,
  parent_in c.requires.0 c.requires.1 c.requires.2 c.parent.ensures c.if-t-eq1.false
      (sym c.in_ok-p.was ∙ along-alone _ _ _ _ _ c.along.ensures),
)

pub overflow_add-result : goal.overflow_add-result
overflow_add-result c = omega (
  arith,
  parent_in c.requires.0
      c.requires.1 c.requires.2 c.parent.ensures
      c.if-t-eq1.false
      (sym c.in_ok-p.was ∙ along-alone _ _ _ _ _
      c.along.ensures),
  c.requires.0.sound.sized.few,
)

pub returns : goal.returns
returns c =
    parented-child c.args.cat.now (listing c.args.cat.now c.args.tab.now) c.args.pos c.args.t _
    c.if-t-eq1.false _ _ _ (parent-levels c.requires.0 c.requires.1 c.requires.2 c.parent.ensures
    (sym c.in_ok-p.was ∙ along-alone _ _ _ _ _ c.along.ensures)) c.run_end-end.ensures
    c.is_one_of_row-beneath.ensures
