use mathlib.Core.Path.{refl}
use native.Mathlib.Omega.{arith}
use Rattle.reports.proofs.Steps.{stands-fresh, stands_on, again-cell, next-none, next_one}
use Rattle.reports.proofs.OneList.{way-start, way-picked, way_next}
use Rattle.reports.proofs.single.joined_sound.Goals as goal

pub loop-area-init : goal.loop-area-init
loop-area-init c = rw c.fresh-at.ensures (
  way-start (omega arith) (omega arith),
  stands-fresh
      c.requires.joined _ refl,
  (λ l. absurd (omega arith)),
  refl,
)

pub returns-then-number-ge10 : goal.returns-then-number-ge10
returns-then-number-ge10 c =
    way-picked c.requires.joined c.loop-area.invariant.0
    (next-none c.requires.joined c.loop-area.invariant.1 c.read_again-a.result _ c.number.result
    c.number.ensures c.read_again-a.ensures c.if-number-ge10.true)

pub put_hit-requires : goal.put_hit-requires
put_hit-requires c = let m = next_one c.requires.joined
    c.loop-area.invariant.1
    c.read_again-a.result _
    c.number.result c.number.ensures
    c.read_again-a.ensures c.if-number-ge10.false _
    c.cell-c.ensures in (
      omega (
        arith,
        m.small,
        m.turn.later,
        c.loop-area.invariant.0.fewer,
      ),
      omega (arith, m.small),
    )

pub overflow_add-hits : goal.overflow_add-hits
overflow_add-hits c = let m = next_one c.requires.joined
    c.loop-area.invariant.1
    c.read_again-a.result _
    c.number.result
    c.number.ensures
    c.read_again-a.ensures
    c.if-number-ge10.false _ c.cell-c.ensures
    in omega (
      arith,
      m.small,
      m.turn.later,
      c.loop-area.invariant.0.fewer,
    )

pub loop-area-smaller : goal.loop-area-smaller
loop-area-smaller c = let m = next_one c.requires.joined
    c.loop-area.invariant.1
    c.read_again-a.result _
    c.number.result
    c.number.ensures
    c.read_again-a.ensures
    c.if-number-ge10.false _
    c.cell-c.ensures in rw c.under-at.ensures
    (omega (arith, m.turn.later, m.turn.inside))

pub loop-area-preserved : goal.loop-area-preserved
loop-area-preserved c =
    let m = next_one c.requires.joined c.loop-area.invariant.1 c.read_again-a.result _ c.number.result c.number.ensures
    c.read_again-a.ensures c.if-number-ge10.false _ c.cell-c.ensures in rw c.under-at.ensures (
      way_next c.loop-area.invariant.0 m.turn _ c.put_hit.ensures,
      stands_on c.requires.joined _ _ m.turn.inside
          c.area-in-loop-area-1.given,
      again-cell _ _ _ c.cell-c.result m.turn.passes,
      c.area-in-loop-area-1.given,
    )
