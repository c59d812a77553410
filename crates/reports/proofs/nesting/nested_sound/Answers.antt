use mathlib.Core.Path.{refl}
use native.Mathlib.Omega.{arith}
use Rattle.rules.proofs.Cells.{listing-length}
use Rattle.reports.proofs.Steps.{stands-fresh, stands-under, get-ready, next-none, next_one}
use Rattle.reports.proofs.Outer.{outer_start, outer-done, outer-next}
use Rattle.gets.proofs.OneList.{ready-alone, next-alone}
use Rattle.reports.proofs.nesting.nested_sound.Goals as goal

pub loop-area-init : goal.loop-area-init
loop-area-init c = rw c.fresh-at.ensures (outer_start c.requires _, stands-fresh c.requires.first _ refl, refl)

pub read_next-a-requires : goal.read_next-a-requires
read_next-a-requires c =
    let r = get-ready c.requires.first c.loop-area.invariant.1 in let q = ready-alone r.0 in (q.0, q.1, r.1)

pub returns-then-number-ge10 : goal.returns-then-number-ge10
returns-then-number-ge10 c =
    outer-done c.requires c.loop-area.invariant.0 (next-none c.requires.first c.loop-area.invariant.1 c.read_next-a.result _
    c.number.result c.number.ensures (next-alone _ _ _ _ _ _ c.read_next-a.ensures)
    c.if-number-ge10.true)

pub read_under-w-requires : goal.read_under-w-requires
read_under-w-requires c =
    let m = next_one c.requires.first
    c.loop-area.invariant.1
    c.read_next-a.result _
    c.number.result
    c.number.ensures
    (next-alone _ _ _ _ _ _ c.read_next-a.ensures)
    c.if-number-ge10.false _ c.cell-p.ensures in (
      c.requires.second,
      omega
          (arith, m.turn.inside, listing-length c.args.cat.now c.args.tab.now),
      omega (
        arith,
        m.turn.later,
        c.loop-area.invariant.0.fewer,
      ),
      c.area-in-loop-area-1.given,
    )

pub loop-area-smaller : goal.loop-area-smaller
loop-area-smaller c = let m = next_one c.requires.first
    c.loop-area.invariant.1 c.read_next-a.result _ c.number.result c.number.ensures
    (next-alone _ _ _ _ _ _ c.read_next-a.ensures) c.if-number-ge10.false _ c.cell-p.ensures in rw c.under-at.ensures
    (omega (arith, m.turn.later, m.turn.inside, c.read_under-w.ensures.later))

pub loop-area-preserved : goal.loop-area-preserved
loop-area-preserved c =
    let m = next_one c.requires.first
    c.loop-area.invariant.1 c.read_next-a.result _ c.number.result c.number.ensures
    (next-alone _ _ _ _ _ _ c.read_next-a.ensures) c.if-number-ge10.false _ c.cell-p.ensures in rw c.under-at.ensures (
      outer-next c.requires
          c.loop-area.invariant.0 m.turn _ _ c.read_under-w.ensures,
      stands-under
          c.requires.first
          c.cell-p.result
          c.read_under-w.result.cell _
          (omega (arith, m.turn.inside, listing-length c.args.cat.now c.args.tab.now))
          c.read_under-w.ensures.later
          c.read_under-w.ensures.inside c.area-in-loop-area-3-1.given,
      c.area-in-loop-area-3-1.given,
    )
