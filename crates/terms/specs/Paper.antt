-- The statuses (R48) and the operators (R25) once more, row by row, to be laid beside the manual. That the definitions say the same is stated in Printed.antt.
-- Assumes nothing: these are definitions.
use Rattle.std.specs.Prelude.{Bool, true, false, List, [], ◌∷◌, ℕ, zero, suc, None, Some, Option}
use Prim.Native.String.{String}
use Rattle.terms.specs.declared.Status.{Status}
use Rattle.terms.specs.declared.Status.TheVariants.{Blank, GA, GK, GB, GE, GP, CX, TX, PX, AD, AC, AJ, AK, AH, AB, DJ, DA, II, FX, PD}
use Rattle.terms.specs.declared.Operator.{Operator}
use Rattle.terms.specs.declared.Operator.TheVariants.{Eq, Ne, Lt, Le, Gt, Ge}
use Rattle.terms.specs.Text.{bytes_of}

-- row i of a table, counted from 0
abbrev pub printed_row : {A : Type 0} → List A → ℕ → Option A
printed_row [] i = None
printed_row (r ∷ rs) zero = Some r
printed_row (r ∷ rs) (suc i) = printed_row rs i

pub record StatusRow : Type 0 where
  pub status : Status
  pub number : ℕ
  pub letters : List ℕ

abbrev pub given : Status → ℕ → String → StatusRow
given s n printed = record { status = s; number = n; letters = bytes_of printed }

-- R48, with the letters that the listing prints (R67): -- for blank
unfoldable pub printed_statuses : List StatusRow
printed_statuses =
    given Blank 0 "--"
    ∷ given GA 1 "GA"
    ∷ given GK 2 "GK"
    ∷ given GB 10 "GB"
    ∷ given GE 11 "GE"
    ∷ given GP 12 "GP"
    ∷ given CX 20 "CX"
    ∷ given TX 21 "TX"
    ∷ given PX 22 "PX"
    ∷ given AD 23 "AD"
    ∷ given AC 24 "AC"
    ∷ given AJ 25 "AJ"
    ∷ given AK 26 "AK"
    ∷ given AH 27 "AH"
    ∷ given AB 28 "AB"
    ∷ given DJ 29 "DJ"
    ∷ given DA 30 "DA"
    ∷ given II 31 "II"
    ∷ given FX 32 "FX"
    ∷ given PD 33 "PD"
    ∷ []

pub record OperatorRow : Type 0 where
  pub number : ℕ
  pub sign : String
  pub operator : Option Operator

abbrev pub signed : ℕ → String → Option Operator → OperatorRow
signed n sign o = record { number = n; sign = sign; operator = o }

-- R25: each operator with its number and its sign
unfoldable pub printed_operators : List OperatorRow
printed_operators =
    signed 0 "none" None
    ∷ signed 1 "=" (Some Eq)
    ∷ signed 2 "≠" (Some Ne)
    ∷ signed 3 "<" (Some Lt)
    ∷ signed 4 "≤" (Some Le)
    ∷ signed 5 ">" (Some Gt)
    ∷ signed 6 "≥" (Some Ge)
    ∷ []

-- what a sign says of a field that is smaller than the value, equal to it, greater: the field is on the left (R25)
pub record TruthRow : Type 0 where
  pub sign : String
  pub smaller : Bool
  pub equal : Bool
  pub greater : Bool

abbrev pub says : String → Bool → Bool → Bool → TruthRow
says sign smaller equal greater = record { sign = sign; smaller = smaller; equal = equal; greater = greater }

unfoldable pub printed_truth : List TruthRow
printed_truth =
    says "=" false true false
    ∷ says "≠" true false true
    ∷ says "<" true false false
    ∷ says "≤" true true false
    ∷ says ">" false false true
    ∷ says "≥" false true true
    ∷ []
