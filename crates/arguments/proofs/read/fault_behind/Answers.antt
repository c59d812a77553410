use mathlib.Core.Path.{ap, sym, ◌∙◌}
use native.Mathlib.Omega.{arith}
use Rattle.std.proofs.lemmas.Result.{err_from_is_err_and}
use Rattle.terms.specs.Statuses.{verdict}
use Rattle.rules.specs.Arguments.{ListRead}
use Rattle.arguments.proofs.Rest.{rest_end, got-rest, got-onward, got_fault}
use Rattle.arguments.proofs.read.fault_behind.Goals as goal

pub returns-in_err-a : goal.returns-in_err-a
returns-in_err-a c =
    let p = err_from_is_err_and c.from_residual.result c.from_residual.ensures.1 in
    rw (p.1, p.2) (got_fault c.args.cat.now c.args.list.now c.loop-at.before c.loop-at.at c.loop-at-test.true c.read_argument.ensures c.in_err-a.was ∙ c.loop-at.invariant)

pub loop-at-smaller : goal.loop-at-smaller
loop-at-smaller c = omega (
  arith,
  got-onward c.args.cat.now c.args.list.now
      c.loop-at.before
      c.loop-at.at
      c.loop-at-test.true
      c.read_argument.ensures c.in_ok-a.was,
)

pub loop-at-preserved : goal.loop-at-preserved
loop-at-preserved c = ap verdict (got-rest c.args.cat.now c.args.list.now c.loop-at.before c.loop-at.at c.loop-at-test.true
    c.read_argument.ensures c.in_ok-a.was) ∙ c.loop-at.invariant

pub returns : goal.returns
returns c = sym (ap (λ (l : ListRead). verdict l.fault) (rest_end c.args.cat.now c.args.list.now c.loop-at.before
    c.loop-at.at c.loop-at-test.false)) ∙ c.loop-at.invariant
