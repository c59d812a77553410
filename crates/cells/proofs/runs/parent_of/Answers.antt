use native.Mathlib.Omega.{arith}
use Rattle.cells.proofs.Ancestry.{parent-root, parent-start, parent-none, parent-here, parent-more}
use Rattle.cells.proofs.runs.parent_of.Goals as goal

pub returns-then-above-eq0 : goal.returns-then-above-eq0
returns-then-above-eq0 c = parent-root c.requires.0 c.args.c.0 c.requires.1 c.code_at.result c.parent-above.result c.code_at.ensures
    c.parent-above.ensures c.if-above-eq0.true

pub loop-k-init : goal.loop-k-init
loop-k-init c = (
  omega arith,
  parent-start c.requires.0 c.args.c.0
      c.requires.1 c.code_at.result
      c.parent-above.result c.code_at.ensures
      c.parent-above.ensures,
)

pub returns-then-code_at-above : goal.returns-then-code_at-above
returns-then-code_at-above c =
    let ·args = c.args
    in parent-here c.requires.0 ·args.c.0 c.requires.1 c.code_at.result c.parent-above.result c.code_at.ensures
    c.parent-above.ensures c.loop-k.k c.code_at-in-loop-k.result c.loop-k-test.true c.code_at-in-loop-k.ensures c.loop-k.invariant.1
    c.if-code_at-above.true

pub loop-k-preserved : goal.loop-k-preserved
loop-k-preserved c =
    let ·args = c.args
    in (
      omega (arith, c.loop-k.invariant.0),
      parent-more
          c.requires.0
          ·args.c.0 c.requires.1 c.code_at.result
          c.parent-above.result
          c.code_at.ensures
          c.parent-above.ensures
          c.loop-k.k c.code_at-in-loop-k.result
          c.loop-k-test.true c.code_at-in-loop-k.ensures
          c.loop-k.invariant.1 c.if-code_at-above.false,
    )

pub returns : goal.returns
returns c = parent-none c.requires.0 c.args.c.0 c.requires.1 c.code_at.result c.parent-above.result c.code_at.ensures
    c.parent-above.ensures c.loop-k.k c.loop-k-test.false c.loop-k.invariant.1
