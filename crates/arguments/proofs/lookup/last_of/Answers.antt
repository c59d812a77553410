use native.Mathlib.Omega.{arith}
use mathlib.Core.Path.{ap}
use Rattle.terms.specs.declared.Argument.{Argument}
use Rattle.arguments.proofs.Walk.{passed_start, passed-end, passed-room, passed-onward, passed-next}
use Rattle.arguments.proofs.lookup.last_of.Goals as goal

pub loop-last-init : goal.loop-last-init
loop-last-init c = passed_start c.args.cat.now c.args.list.now c.requires

pub argument_at-last-requires : goal.argument_at-last-requires
argument_at-last-requires c = passed-room c.args.cat.now c.args.list.now c.loop-last.last (omega arith)
    c.loop-last.invariant

pub loop-last-smaller : goal.loop-last-smaller
loop-last-smaller c = omega (
  arith,
  passed-onward c.args.cat.now c.args.list.now c.loop-last.last
      (omega arith) c.loop-last.invariant,
  ap (λ (a : Argument). a.next) c.argument_at-last.ensures,
)

pub loop-last-preserved : goal.loop-last-preserved
loop-last-preserved c = passed-next c.args.cat.now c.args.list.now c.loop-last.last (omega arith)
    c.loop-last.invariant c.argument_at-last.ensures

pub returns : goal.returns
returns c = passed-end c.args.cat.now c.args.list.now c.loop-last.last (omega arith)
    c.loop-last.invariant
