use mathlib.Core.Path.{ap, sym, ◌∙◌}
use native.Mathlib.Omega.{arith}
use Rattle.terms.specs.declared.Argument.{Argument}
use Rattle.arguments.proofs.Walk.{walked-room, walked-onward}
use Rattle.arguments.proofs.Once.{marked-fits}
use Rattle.arguments.proofs.Sole.{telling-start, telling-end, telling-other, telling-passed, telling-here, telling-kept}
use Rattle.arguments.proofs.alone.alone_in.Goals as goal

pub loop-at-init : goal.loop-at-init
loop-at-init c = telling-start c.args.cat.now c.args.list.now c.args.base c.args.t c.args.e c.requires.0

pub argument_at-a-requires : goal.argument_at-a-requires
argument_at-a-requires c = walked-room c.args.cat.now c.args.list.now c.loop-at.at c.loop-at-test.true
    c.loop-at.invariant.walk

pub returns-then-is_some : goal.returns-then-is_some
returns-then-is_some c = telling-other c.args.cat.now c.args.list.now c.args.base c.args.t c.args.e c.loop-at.own c.loop-at.at
    c.loop-at.invariant c.loop-at-test.true c.argument_at-a.ensures c.if-a-t.true
    (sym c.is_some.ensures ∙ c.if-is_some.true)

pub entry_of-own-requires : goal.entry_of-own-requires
entry_of-own-requires c =
    marked-fits c.args.cat.now c.args.list.now c.args.base c.loop-at.at c.requires.1
    (walked-room c.args.cat.now c.args.list.now c.loop-at.at c.loop-at-test.true c.loop-at.invariant.walk)
    c.argument_at-a.ensures

pub loop-at-smaller-else-is_some : goal.loop-at-smaller-else-is_some
loop-at-smaller-else-is_some c = omega (
  arith,
  walked-onward c.args.cat.now c.args.list.now
      c.loop-at.at
      c.loop-at-test.true
      c.loop-at.invariant.walk,
  ap (λ (a : Argument). a.next)
      c.argument_at-a.ensures,
)

pub loop-at-preserved-else-is_some : goal.loop-at-preserved-else-is_some
loop-at-preserved-else-is_some c =
    telling-passed c.args.cat.now c.args.list.now c.args.base c.args.t c.args.e c.loop-at.own c.loop-at.at
    c.loop-at.invariant c.loop-at-test.true c.argument_at-a.ensures c.if-a-t.true
    (sym c.is_some.ensures ∙ c.if-is_some.false)

pub loop-at-smaller-then-own-eq1 : goal.loop-at-smaller-then-own-eq1
loop-at-smaller-then-own-eq1 c =
    omega (
      arith,
      walked-onward c.args.cat.now c.args.list.now
          c.loop-at.at
          c.loop-at-test.true
          c.loop-at.invariant.walk,
      ap (λ (a : Argument). a.next)
          c.argument_at-a.ensures,
    )

pub loop-at-preserved-then-own-eq1 : goal.loop-at-preserved-then-own-eq1
loop-at-preserved-then-own-eq1 c =
    telling-here c.args.cat.now c.args.list.now c.args.base c.args.t c.args.e c.loop-at.own c.loop-at.at
    c.loop-at.invariant c.loop-at-test.true c.argument_at-a.ensures c.if-a-t.false c.if-own-eq1.true c.entry_of-own.ensures

pub loop-at-smaller : goal.loop-at-smaller
loop-at-smaller c = omega (
  arith,
  walked-onward c.args.cat.now c.args.list.now
      c.loop-at.at
      c.loop-at-test.true
      c.loop-at.invariant.walk,
  ap (λ (a : Argument). a.next)
      c.argument_at-a.ensures,
)

pub loop-at-preserved : goal.loop-at-preserved
loop-at-preserved c = telling-kept c.args.cat.now c.args.list.now c.args.base c.args.t c.args.e c.loop-at.own c.loop-at.at
    c.loop-at.invariant c.loop-at-test.true c.argument_at-a.ensures c.if-a-t.false c.if-own-eq1.false

pub returns : goal.returns
returns c = telling-end c.args.cat.now c.args.list.now c.args.base c.args.t c.args.e c.loop-at.own
    c.loop-at.at c.loop-at.invariant c.loop-at-test.false
