-- `operator_of`, `operator_number` and `holds` are the columns of Paper.antt's operators (R25). Assumes nothing.
use Rattle.std.specs.declared.cmp.Ordering.TheVariants.{Equal, Greater, Less}
use Rattle.std.specs.Prelude.{None, Some, Option}
use mathlib.Core.Path.{◌≡◌, refl, ap, ◌∙◌}
use Prim.Native.Nat.{ℕ, zero, suc, ◌≤◌}
use native.Mathlib.Omega.{arith}
use Prim.Native.String.{String}
use Rattle.terms.specs.declared.Operator.{Operator}
use Rattle.terms.specs.declared.Operator.TheVariants.{Eq, Ne, Lt, Le, Gt, Ge}
use Rattle.terms.specs.Operators.{holds, operator_of, operator_number}
use Rattle.terms.specs.Paper.{printed_row, OperatorRow, signed, printed_operators, says, printed_truth}
use Rattle.terms.specs.Printed.{OperatorsPrinted, NonePrinted, OperatorsRead}
use Rattle.terms.proofs.Rows.{own_line}

-- the line that a row of the table names
abbrev line : Option Operator → ℕ
line None = 0
line (Some o) = operator_number o

abbrev sign : Operator → String
sign Eq = "="
sign Ne = "≠"
sign Lt = "<"
sign Le = "≤"
sign Gt = ">"
sign Ge = "≥"

-- CLAIM: the row of an operator's number is the operator's
operator-rows : (o : Operator) → printed_row printed_operators (operator_number o) ≡ Some (signed (operator_number o) (sign o) (Some o))
unfolding printed_operators
operator-rows Eq = refl
operator-rows Ne = refl
operator-rows Lt = refl
operator-rows Le = refl
operator-rows Gt = refl
operator-rows Ge = refl

operator-once : (o : Operator) (i : ℕ) (r : OperatorRow) → printed_row printed_operators i ≡ Some r → r.operator ≡ Some o → i ≡ operator_number o
unfolding printed_operators
operator-once o i r there same = own_line (λ (q : OperatorRow). line q.operator) printed_operators tt i r there ∙ ap line same

-- THEOREM: the row of 0 is as printed
pub none-printed : NonePrinted
unfolding printed_operators
none-printed = refl

-- where the truth of a sign stands
abbrev truth_line : Operator → ℕ
truth_line Eq = 0
truth_line Ne = 1
truth_line Lt = 2
truth_line Le = 3
truth_line Gt = 4
truth_line Ge = 5

-- CLAIM: what holds is what the sign says
truth-rows : (o : Operator) → printed_row printed_truth (truth_line o) ≡ Some (says (sign o) (holds o Less) (holds o Equal) (holds o Greater))
unfolding printed_truth
truth-rows Eq = refl
truth-rows Ne = refl
truth-rows Lt = refl
truth-rows Le = refl
truth-rows Gt = refl
truth-rows Ge = refl

-- THEOREM: the operators are as printed, and hold as their signs say
pub operators-printed : OperatorsPrinted
operators-printed o = record { sign = sign o; row = operator-rows o; once = operator-once o; line = truth_line o; truth = truth-rows o }

written_read : (o : Operator) → operator_of (operator_number o) ≡ o
unfolding operator_of
written_read Eq = refl
written_read Ne = refl
written_read Lt = refl
written_read Le = refl
written_read Gt = refl
written_read Ge = refl

read-written : (n : ℕ) → 1 ≤ n → n ≤ 6 → operator_number (operator_of n) ≡ n
unfolding operator_of
read-written zero low high = omega arith
read-written (suc zero) low high = refl
read-written (suc (suc zero)) low high = refl
read-written (suc (suc (suc zero))) low high = refl
read-written (suc (suc (suc (suc zero)))) low high = refl
read-written (suc (suc (suc (suc (suc zero))))) low high = refl
read-written (suc (suc (suc (suc (suc (suc zero)))))) low high = refl
read-written (suc (suc (suc (suc (suc (suc (suc n))))))) low high = omega arith

-- THEOREM: what is read is what was written, both ways
pub operators-read : OperatorsRead
operators-read = (written_read, read-written)
