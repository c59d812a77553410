use mathlib.Core.Path.{◌≡◌, ap, ◌∙◌}
use native.Mathlib.Omega.{arith}
use Rattle.rules.specs.Block.{byte}
use Rattle.cells.proofs.Start.{inside-less, start-in}
use Rattle.cells.proofs.Located.{behind-in, behind-low, behind-high, end_none, end-here, end_more}
use Rattle.cells.proofs.runs.passed.Goals as goal
use Rattle.cells.proofs.runs.passed.Goals.{then-u-t-via-then-u-t, then-u-t-via-else-u-t+then-last-u}

pub start_of-requires : goal.start_of-requires
start_of-requires c = inside-less c.requires.0 c.loop-i.i (omega (arith, c.loop-i-test.true))

pub bounds-tab-start_of : goal.bounds-tab-start_of
bounds-tab-start_of c = omega (arith, c.start_of.ensures.0, start-in c.requires.0 c.loop-i.i c.loop-i-test.true, c.requires.0.some)

pub returns-then-u-t : goal.returns-then-u-t
returns-then-u-t c =
    let e = ap (byte c.args.tab.now) c.start_of.ensures.0 in
    elim c.then-u-t.branch [
      | then-u-t-via-then-u-t w ↦
          end-here _ _ _ _ _ _ (behind-low c.args.tab.now c.args.size c.args.t c.args.last c.loop-i.i _ e w.if-u-t.true) ∙ c.loop-i.invariant.2
      | then-u-t-via-else-u-t+then-last-u w ↦
          end-here _ _ _ _ _ _ (behind-high c.args.tab.now c.args.size c.args.t c.args.last c.loop-i.i _ e w.if-last-u.true) ∙ c.loop-i.invariant.2
    ]

pub loop-i-preserved : goal.loop-i-preserved
loop-i-preserved c = (
  omega (arith, c.loop-i.invariant.0),
  omega arith,
  end_more _ _ _ _ _ _ c.loop-i-test.true
      (behind-in c.args.tab.now c.args.size c.args.t c.args.last c.loop-i.i _ (ap (byte c.args.tab.now) c.start_of.ensures.0)
      (omega (arith, c.if-u-t.false)) (omega (arith, c.if-last-u.false))) ∙ c.loop-i.invariant.2,
)

pub returns : goal.returns
returns c = let z : c.args.to ≡ c.loop-i.i = omega (arith, c.loop-i.invariant.1) in z ∙ end_none _ _ _ _ _ _ (omega arith) ∙ c.loop-i.invariant.2
