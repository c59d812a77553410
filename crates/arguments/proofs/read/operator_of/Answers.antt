use Rattle.std.proofs.Common.{arith}
use Rattle.rules.specs.Arguments.{operator_of}
use borrow.Author.Tests.{ne_eqb}
use Rattle.arguments.proofs.read.operator_of.Goals as goal

pub returns-in-1 : goal.returns-in-1
unfolding operator_of
returns-in-1 c = simp c.in-1.is

pub returns-in-2 : goal.returns-in-2
unfolding operator_of
returns-in-2 c = simp c.in-2.is

pub returns-in-3 : goal.returns-in-3
unfolding operator_of
returns-in-3 c = simp c.in-3.is

pub returns-in-4 : goal.returns-in-4
unfolding operator_of
returns-in-4 c = simp c.in-4.is

pub returns-in-5 : goal.returns-in-5
unfolding operator_of
returns-in-5 c = simp c.in-5.is

pub returns-in_default : goal.returns-in_default
unfolding operator_of
returns-in_default c =
    let b = c.args.b in
    simp (
      ne_eqb b 1 (λ e. omega arith),
      ne_eqb b 2 (λ e. omega arith),
      ne_eqb b 3 (λ e. omega arith),
      ne_eqb b 4 (λ e. omega arith),
      ne_eqb b 5 (λ e. omega arith),
    )
