-- A list that has no fault: its arguments as they stand, and what it asks of a type. Assumes nothing: these are definitions.
use Rattle.std.specs.Prelude.{◌≡◌, true, false, List, [], ◌∷◌, ℕ, ◌+◌, ◌-◌, ◌<◌, ◌≤◌, eqb, length, None, Some}
use Rattle.terms.specs.declared.TypeCode.{TypeCode}
use Rattle.terms.specs.declared.FieldNumber.{FieldNumber}
use Rattle.terms.specs.declared.Operator.{Operator}
use Rattle.terms.specs.declared.Argument.{Argument}
use Rattle.terms.specs.declared.Status.TheVariants.{Blank}
use Rattle.terms.specs.Choice.{pick}
use Rattle.terms.specs.Names.{code, field, same_type, Qualification, test}
use Rattle.rules.specs.Block.{Bytes, byte, part}
use Rattle.rules.specs.Order.{is_value}
use Rattle.rules.specs.Catalogue.{fields, field_type, field_length, field_value, good_catalogue}
use Rattle.rules.specs.Arguments.{ListRead, Asked, implied, operator_of, good_next, arguments_from, list_read, meant}

-- what a call has of its catalogue and its list once neither is refused
pub record SoundList (cat list : Bytes) : Type 0 where
  pub catalogue : good_catalogue cat ≡ true
  pub read : (list_read cat list).fault ≡ Blank

-- what the field and the value of a test are: a field of the argument's type, and a value of its length and value type within the list
pub record GoodTest (cat list : Bytes) (t : TypeCode) (o : Operator) (f : FieldNumber) (v : ℕ) : Type 0 where
  pub first : 1 ≤ f.0
  pub last : f.0 ≤ fields cat
  pub own : field_type cat f ≡ t
  pub within : v + field_length cat f ≤ length list
  pub value : is_value (field_value cat f) (part list v (field_length cat f)) ≡ true

abbrev pub GoodQualification : Bytes → Bytes → TypeCode → Qualification → Type 0
GoodQualification cat list t None = Unit {0}
GoodQualification cat list t (Some x) = GoodTest cat list t x.operator x.field x.value

-- the list from byte `at` on: each argument takes at least two bytes, so as many as there are bytes left are enough
unfoldable pub rest : Bytes → Bytes → TypeCode → ℕ → ListRead
rest cat list before at = arguments_from cat list (length list - at) before at

-- an argument of a sound list, as it stands: what `argument_at` makes of it, without its tests
unfoldable pub qualification_at : Bytes → ℕ → Qualification
qualification_at list at = pick (eqb (byte list (at + 1)) 0) None (test (operator_of (byte list (at + 1))) (field (byte list (at + 2))) (at + 3))

unfoldable pub next_at : Bytes → Bytes → ℕ → ℕ
next_at cat list at = pick (eqb (byte list (at + 1)) 0) (at + 2) (at + 3 + field_length cat (field (byte list (at + 2))))

abbrev pub untested : Bytes → Bytes → ℕ → Argument
untested cat list at = record { code = code (byte list at); qualification = qualification_at list at; next = next_at cat list at }

-- what of such an argument is read stands within the list: its operator, and its field number where it has one
pub record Room (list : Bytes) (at : ℕ) : Type 0 where
  pub operator : at + 1 < length list
  pub number : (byte list (at + 1) ≡ 0 → ⊥) → at + 2 < length list

-- what a list asks of a type: nothing, for it does not name it, or what it names it with
pub data Wanted : Type 0 where
  Implied : Wanted
  Named : Qualification → Wanted

-- the first argument for a type: what the list asks of it
unfoldable pub wanted_of : List Argument → TypeCode → Wanted
wanted_of [] t = Implied
wanted_of (a ∷ ar) t = elim (same_type a.code t) [ true ↦ Named a.qualification | false ↦ wanted_of ar t ]

-- what that means at a level of the completed list
abbrev pub meaning : Bytes → Bytes → Wanted → Asked
meaning cat list Implied = implied
meaning cat list (Named q) = meant cat list q

-- R26: each argument's type is beneath the one before, and each one's test is good
abbrev pub Downward : Bytes → Bytes → TypeCode → List Argument → Type 0
Downward cat list before [] = Unit {0}
Downward cat list before (a ∷ ar) =
    (good_next cat list before a.code ≡ true) × GoodQualification cat list a.code a.qualification × Downward cat list a.code ar
