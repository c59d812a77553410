use mathlib.Core.Path.{ap}
use native.Mathlib.Omega.{arith}
use Rattle.terms.specs.declared.Argument.{Argument}
use Rattle.arguments.proofs.Walk.{walked-room, walked-onward}
use Rattle.arguments.proofs.Once.{marked-fits}
use Rattle.arguments.proofs.Rows.{marking-start, marking-end, marking-few, marking-here, marking-kept}
use Rattle.arguments.proofs.asked.mark_named.Goals as goal

pub loop-at-init : goal.loop-at-init
loop-at-init c = marking-start c.args.cat.now c.args.list.now c.args.base c.args.row.now c.requires.0 c.requires.2

pub argument_at-a-requires : goal.argument_at-a-requires
argument_at-a-requires c = walked-room c.args.cat.now c.args.list.now c.loop-at.at c.loop-at-test.true
    c.loop-at.invariant.walk

pub bounds-row-u : goal.bounds-row-u
bounds-row-u c = omega (
  arith,
  marking-few c.args.cat.now c.args.list.now c.args.base c.args.row.now
      c.loop-at.row c.loop-at.at c.loop-at.invariant
      c.loop-at-test.true c.argument_at-a.ensures
      c.requires.0.catalogue c.wide-u.result c.wide-u.ensures.0,
)

pub entry_of-requires : goal.entry_of-requires
entry_of-requires c = marked-fits c.args.cat.now c.args.list.now c.args.base c.loop-at.at c.requires.1
    (walked-room c.args.cat.now c.args.list.now c.loop-at.at c.loop-at-test.true c.loop-at.invariant.walk)
    c.argument_at-a.ensures

pub overflow_cast-row : goal.overflow_cast-row
overflow_cast-row c = omega (
  arith,
  c.entry_of.ensures,
  marked-fits c.args.cat.now c.args.list.now c.args.base
      c.loop-at.at
      c.requires.1
      (walked-room c.args.cat.now c.args.list.now c.loop-at.at
      c.loop-at-test.true
      c.loop-at.invariant.walk)
      c.argument_at-a.ensures,
)

pub loop-at-smaller-then-row-u-eq1 : goal.loop-at-smaller-then-row-u-eq1
loop-at-smaller-then-row-u-eq1 c = omega (
  arith,
  walked-onward c.args.cat.now c.args.list.now
      c.loop-at.at
      c.loop-at-test.true
      c.loop-at.invariant.walk,
  ap (λ (a : Argument). a.next)
      c.argument_at-a.ensures,
)

pub loop-at-preserved-then-row-u-eq1 : goal.loop-at-preserved-then-row-u-eq1
loop-at-preserved-then-row-u-eq1 c = marking-here c.args.cat.now c.args.list.now c.args.base c.args.row.now c.loop-at.row c.loop-at.at
    c.loop-at.invariant c.loop-at-test.true c.argument_at-a.ensures c.requires.0.catalogue c.wide-u.result c.wide-u.ensures.0
    c.if-row-u-eq1.true c.entry_of.ensures

pub loop-at-smaller : goal.loop-at-smaller
loop-at-smaller c = omega (
  arith,
  walked-onward c.args.cat.now c.args.list.now
      c.loop-at.at c.loop-at-test.true
      c.loop-at.invariant.walk,
  ap (λ (a : Argument). a.next)
      c.argument_at-a.ensures,
)

pub loop-at-preserved : goal.loop-at-preserved
loop-at-preserved c = marking-kept c.args.cat.now c.args.list.now c.args.base c.args.row.now c.loop-at.row c.loop-at.at
    c.loop-at.invariant c.loop-at-test.true c.argument_at-a.ensures c.requires.0.catalogue c.wide-u.result c.wide-u.ensures.0
    c.if-row-u-eq1.false

pub returns : goal.returns
returns c = marking-end c.args.cat.now c.args.list.now c.args.base c.args.row.now c.loop-at.row
    c.loop-at.at c.loop-at.invariant c.loop-at-test.false
