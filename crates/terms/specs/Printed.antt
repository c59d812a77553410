-- The definitions say what the manual prints: `number`, `letters`, `operator_of` and `holds` are the columns of Paper.antt's tables. Assumes nothing: these are
-- definitions, and the proofs are in proofs/.
use Rattle.std.specs.declared.cmp.Ordering.TheVariants.{Equal, Greater, Less}
use Rattle.std.specs.Prelude.{◌≡◌, ℕ, ◌≤◌, None, Some}
use Prim.Native.String.{String}
use Rattle.terms.specs.declared.Status.{Status}
use Rattle.terms.specs.declared.Operator.{Operator}
use Rattle.terms.specs.Statuses.{number, letters}
use Rattle.terms.specs.Operators.{holds, operator_of, operator_number}
use Rattle.terms.specs.Paper.{printed_row, StatusRow, printed_statuses, OperatorRow, printed_operators, signed, printed_truth, says}

-- the row of a status holds its number and its letters, and no other row is of this status
pub record StatusPrinted (s : Status) : Type 0 where
  pub line : ℕ
  pub row : printed_row printed_statuses line ≡ Some (record { status = s; number = number s; letters = letters s })
  pub once : (i : ℕ) (r : StatusRow) → printed_row printed_statuses i ≡ Some r → r.status ≡ s → i ≡ line

abbrev pub StatusesPrinted : Type 0
StatusesPrinted = (s : Status) → StatusPrinted s

-- no two statuses share a number, and none share letters
abbrev pub NumbersApart : Type 0
NumbersApart = (s t : Status) → number s ≡ number t → s ≡ t

abbrev pub LettersApart : Type 0
LettersApart = (s t : Status) → letters s ≡ letters t → s ≡ t

-- the row of an operator's number is the operator's, and no other is; what its sign says is what holds
pub record OperatorPrinted (o : Operator) : Type 0 where
  pub sign : String
  pub row : printed_row printed_operators (operator_number o) ≡ Some (signed (operator_number o) sign (Some o))
  pub once : (i : ℕ) (r : OperatorRow) → printed_row printed_operators i ≡ Some r → r.operator ≡ Some o → i ≡ operator_number o
  pub line : ℕ
  pub truth : printed_row printed_truth line ≡ Some (says sign (holds o Less) (holds o Equal) (holds o Greater))

abbrev pub OperatorsPrinted : Type 0
OperatorsPrinted = (o : Operator) → OperatorPrinted o

-- the row of 0 is no operator's, and its sign says so
abbrev pub NonePrinted : Type 0
NonePrinted = printed_row printed_operators 0 ≡ Some (signed 0 "none" None)

-- a number read and written gives it back, and an operator written and read
abbrev pub OperatorsRead : Type 0
OperatorsRead = ((o : Operator) → operator_of (operator_number o) ≡ o) × ((n : ℕ) → 1 ≤ n → n ≤ 6 → operator_number (operator_of n) ≡ n)
