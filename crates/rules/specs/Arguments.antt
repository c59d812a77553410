-- The argument list (R24 to R27), read; and completed with its implied levels (R29, R30). Assumes nothing: these are definitions.
use Rattle.std.specs.Prelude.{Bool, true, false, ◌&&◌, ◌||◌, not, List, [], ◌∷◌, map, reverse, ℕ, zero, suc, ◌+◌, ltb, leb, eqb, length, Err, Ok, None, Result, Some, is_some}
use Rattle.terms.specs.declared.TypeCode.{TypeCode}
use Rattle.terms.specs.declared.FieldNumber.{FieldNumber}
use Rattle.terms.specs.declared.Operator.{Operator}
use Rattle.terms.specs.declared.Argument.{Argument}
use Rattle.terms.specs.declared.Status.{Status}
use Rattle.terms.specs.declared.Status.TheVariants.{Blank, AC, AJ, AK}
use Rattle.terms.specs.Choice.{pick}
use Rattle.terms.specs.Names.{code, field, same_type, Qualification, test}
use Rattle.rules.specs.Block.{Bytes, byte, part}
use Rattle.rules.specs.Order.{is_value}
use Rattle.rules.specs.Catalogue.{fields, field_type, field_length, field_value, is_type, parent_of, type_beneath, lineage}
-- R25: the operators by their numbers
unfoldable pub use Rattle.terms.specs.Operators.{operator_of}

-- the list as far as it was read, and its fault: Blank, if it has none
pub record ListRead : Type 0 where
  pub fault : Status
  pub arguments : List Argument

-- what a completed list asks at a level (000, formula 31): nothing, for the level is implied; nothing, though it is named; or a test
pub data Asked : Type 0 where
  implied : Asked
  unqualified : Asked
  qualified : Operator → FieldNumber → Bytes → Asked

pub record Level : Type 0 where
  pub code : TypeCode
  pub asked : Asked

module _ (cat : Bytes) (list : Bytes) where
  -- R26: t may come behind the type before it; 0 where no type is before it
  unfoldable pub good_next : TypeCode → TypeCode → Bool
  good_next before t = is_type cat t && (eqb before.0 0 || type_beneath cat t before)

  -- R27: the field is one of this type
  unfoldable pub is_field_of : TypeCode → FieldNumber → Bool
  is_field_of t f = leb 1 f.0 && leb f.0 (fields cat) && same_type (field_type cat f) t

  -- one argument, which begins at this byte; R90: its value is one of the field's value type
  unfoldable pub argument_at : TypeCode → ℕ → Result Argument Status
  argument_at before at =
      let t = code (byte list at) in
      let o = byte list (at + 1) in
      let f = field (byte list (at + 2)) in
      pick (not (good_next before t)) (Err AC)
      (pick (leb (length list) (at + 1)) (Err AJ)
      (pick (eqb o 0) (Ok (record { code = t; qualification = None; next = at + 2 }))
      (pick (ltb 6 o) (Err AJ)
      (pick (leb (length list) (at + 2)) (Err AJ)
      (pick (not (is_field_of t f)) (Err AK)
      (pick (ltb (length list) (at + 3 + field_length cat f)) (Err AJ)
      (pick (not (is_value (field_value cat f) (part list (at + 3) (field_length cat f)))) (Err AJ)
      (Ok (record { code = t; qualification = test (operator_of o) f (at + 3); next = at + 3 + field_length cat f })))))))))

  -- R26: read from byte `at` on, at most n arguments, up to the first fault
  unfoldable pub arguments_from : ℕ → TypeCode → ℕ → ListRead
  arguments_from zero before at = record { fault = Blank; arguments = [] }
  arguments_from (suc n) before at = elim (leb (length list) at) [
    | true ↦ record { fault = Blank; arguments = [] }
    | false ↦ elim (argument_at before at) [
      | Err s ↦ record { fault = s; arguments = [] }
      | Ok a ↦ (let r = arguments_from n a.code a.next in record { fault = r.fault; arguments = a ∷ r.arguments })
    ]
  ]

  -- the whole list
  unfoldable pub list_read : ListRead
  list_read = arguments_from (length list) (code 0) 0

  abbrev pub meant : Qualification → Asked
  meant None = unqualified
  meant (Some x) = qualified x.operator x.field (part list x.value (field_length cat x.field))

  -- R29: what the list asks of a type
  unfoldable pub asked_of : List Argument → TypeCode → Asked
  asked_of [] t = implied
  asked_of (a ∷ ar) t = elim (same_type a.code t) [ true ↦ meant a.qualification | false ↦ asked_of ar t ]

  -- R30: the list completed down to type t (document 000, formula 32)
  unfoldable pub complete : List Argument → TypeCode → List Level
  complete ar t = map (λ u. record { code = code u; asked = asked_of ar (code u) }) (reverse (lineage cat t))

-- the last argument; for the empty list, one of no type
abbrev pub last_argument : List Argument → Argument
last_argument [] = record { code = code 0; qualification = None; next = 0 }
last_argument (a ∷ []) = a
last_argument (a ∷ (b ∷ ar)) = last_argument (b ∷ ar)

abbrev pub is_qualified : Qualification → Bool
is_qualified q = is_some q

module _ (cat : Bytes) (list : Bytes) where
  -- R31: the empty list is not completed; the others, down to the last argument's type
  abbrev pub get_levels : List Argument → List Level
  get_levels [] = []
  get_levels (a ∷ ar) = complete cat list (a ∷ ar) (last_argument (a ∷ ar)).code

  -- R40: what ISRT seeks its parent by; the last argument's own type is not among these levels
  abbrev pub parent_levels : List Argument → List Level
  parent_levels ar = complete cat list ar (parent_of cat (last_argument ar).code)
