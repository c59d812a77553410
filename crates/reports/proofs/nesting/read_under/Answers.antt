use mathlib.Core.Path.{refl, ◌∙◌}
use native.Mathlib.Omega.{arith}
use Rattle.cells.proofs.Located.{end_after}
use Rattle.reports.proofs.Steps.{stands-under, get-ready, within_none, within-one}
use Rattle.reports.proofs.OneList.{way-start, way-went, way_next}
use Rattle.gets.proofs.OneList.{ready-alone, within-alone}
use Rattle.reports.proofs.nesting.read_under.Goals as goal

pub loop-p-init : goal.loop-p-init
loop-p-init c = (
  way-start (end_after _ _ _) c.requires.2,
  stands-under
      c.requires.0 c.args.p c.args.p _
      c.requires.1 (omega arith) (end_after _ _ _)
      c.requires.3,
  c.requires.3,
)

pub read_within-a-requires : goal.read_within-a-requires
read_within-a-requires c =
    let r = get-ready c.requires.0 c.loop-p.invariant.1 in let q = ready-alone r.0 in rw c.under.ensures
    (q.0, q.1, r.1, refl)

pub returns-then-number-ge10 : goal.returns-then-number-ge10
returns-then-number-ge10 c = way-went c.loop-p.invariant.0 (within_none c.requires.0 c.loop-p.invariant.1 c.read_within-a.result _ c.number.result
    c.number.ensures (within-alone _ _ _ _ _ _ (rw c.under.ensures at c.read_within-a.ensures)) _ refl
    c.if-number-ge10.true)

pub put_hit-requires : goal.put_hit-requires
put_hit-requires c = let m = within-one
    c.requires.0 c.loop-p.invariant.1 c.read_within-a.result _
    c.number.result c.number.ensures
    (within-alone _ _ _ _ _ _ (rw c.under.ensures at c.read_within-a.ensures)) _ refl
    c.if-number-ge10.false _ c.cell-at.ensures in (
      omega (
        arith,
        m.small,
        m.turn.later,
        c.loop-p.invariant.0.fewer,
      ),
      omega (arith, m.small),
    )

pub overflow_add-hits : goal.overflow_add-hits
overflow_add-hits c = let m = within-one c.requires.0
    c.loop-p.invariant.1 c.read_within-a.result _ c.number.result
    c.number.ensures
    (within-alone _ _ _ _ _ _ (rw c.under.ensures at c.read_within-a.ensures)) _ refl c.if-number-ge10.false _
    c.cell-at.ensures in omega (
      arith,
      m.small,
      m.turn.later,
      c.loop-p.invariant.0.fewer,
    )

pub loop-p-smaller : goal.loop-p-smaller
loop-p-smaller c = let m = within-one c.requires.0
    c.loop-p.invariant.1 c.read_within-a.result _ c.number.result
    c.number.ensures
    (within-alone _ _ _ _ _ _ (rw c.under.ensures at c.read_within-a.ensures)) _ refl c.if-number-ge10.false _
    c.cell-at.ensures in omega (arith, m.turn.later, m.turn.inside)

pub loop-p-preserved : goal.loop-p-preserved
loop-p-preserved c =
    let m = within-one c.requires.0
    c.loop-p.invariant.1 c.read_within-a.result _ c.number.result
    c.number.ensures
    (within-alone _ _ _ _ _ _ (rw c.under.ensures at c.read_within-a.ensures)) _ refl c.if-number-ge10.false _
    c.cell-at.ensures in let l =
    c.area-1.given ∙
    c.loop-p.invariant.2 in (
      way_next c.loop-p.invariant.0 m.turn _ c.put_hit.ensures,
      stands-under
          c.requires.0 c.args.p
          c.cell-at.result _
          c.requires.1
          (omega (
            arith,
            c.loop-p.invariant.0.later,
            m.turn.later,
          )) m.turn.inside l,
      l,
    )
