-- The list: it was read as it is read now, and what it asks is asked of keys and fields of bytes. Assumes nothing.
use Rattle.terms.specs.declared.Status.{Status}
use Rattle.std.specs.Prelude.{Err, Ok, None, Result}
use mathlib.Core.Path.{◌≡◌, refl, ap, sym, ◌∙◌, fun_ext}
use mathlib.Core.Bool.{Bool, true, false, ◌&&◌, ◌||◌, not}
use mathlib.Core.List.{List, [], ◌∷◌, reverse}
use Prim.Native.Nat.{ℕ, zero, suc, ◌+◌}
use lib.Dec.{ltb, leb, eqb}
use lib.ListN.{length}
use Rattle.terms.specs.declared.TypeCode.{TypeCode}
use Rattle.terms.specs.declared.FieldNumber.{FieldNumber}
use Rattle.terms.specs.declared.Argument.{Argument}
use Rattle.terms.specs.declared.Status.TheVariants.{Blank, AC, AJ, AK}
use Rattle.terms.specs.Choice.{pick}
use Rattle.terms.specs.Names.{code, field, same_type, test}
use Rattle.terms.specs.Operators.{operator_of}
use Rattle.forest.specs.Good.{on, off, is, both_left, both_right}
use Rattle.rules.specs.Block.{Bytes, byte, part, every}
use Rattle.rules.specs.Catalogue.{key_value, field_length, field_value, is_type, parent_of, type_beneath, lineage}
use Rattle.rules.specs.Arguments.{ListRead, Asked, implied, unqualified, qualified, Level, good_next, is_field_of, argument_at, arguments_from, list_read, meant}
use Rattle.rules.specs.Arguments.{asked_of, complete, last_argument, get_levels, parent_levels}
use Rattle.rules.proofs.Every.{every_in}
use Rattle.bytes_only.specs.Before as Before
use Rattle.bytes_only.specs.AsBefore.{bytes_only}
use Rattle.bytes_only.proofs.Rows.{every-none, every-parts, every_made}
use Rattle.bytes_only.proofs.Values.{type-bytes, field-bytes, bytes-value}

-- the reading of a list from its next argument and from how the rest of it is read
abbrev read_on : Bool → Result Argument Status → (TypeCode → ℕ → ListRead) → ListRead
read_on end next rest = elim end [
  | true ↦ record { fault = Blank; arguments = [] }
  | false ↦ elim next [
    | Err s ↦ record { fault = s; arguments = [] }
    | Ok a ↦ (let r = rest a.code a.next in record { fault = r.fault; arguments = a ∷ r.arguments })
  ]
]

module _ (cat : Bytes) (only : bytes_only cat ≡ true) (list : Bytes) where
  -- one argument: where there is its field, its value is one
  argument-before : (before : TypeCode) (at : ℕ) → argument_at cat list before at ≡ Before.argument_at cat list before at
  unfolding argument_at Before.argument_at
  argument-before before at =
      let t : TypeCode = code (byte list at) in
      let f : FieldNumber = field (byte list (at + 2)) in
      elim (is (is_field_of cat list t f)) [
        | on e ↦ rw (bytes-value (field_value cat f) (field-bytes cat only list t f e) (part list (at + 3) (field_length cat f)))
        | off e ↦ rw e
      ]

  -- one argument after the other, up to the same fault
  arguments-before : (n : ℕ) (before : TypeCode) (at : ℕ) → arguments_from cat list n before at ≡ Before.arguments_from cat list n before at
  unfolding arguments_from Before.arguments_from
  arguments-before zero before at = refl
  arguments-before (suc n) before at =
      ap (λ (r : Result Argument Status). read_on (leb (length list) at) r (arguments_from cat list n)) (argument-before before at)
      ∙ ap (read_on (leb (length list) at) (Before.argument_at cat list before at)) (fun_ext (λ t. fun_ext (λ i. arguments-before n t i)))

  pub list-before : list_read cat list ≡ Before.list_read cat list
  unfolding list_read Before.list_read
  list-before = arguments-before (length list) (code 0) 0

-- what is asked of a key and of a field of bytes
module _ (cat : Bytes) where
  abbrev pub bytes_asked : Asked → Bool
  bytes_asked implied = true
  bytes_asked unqualified = true
  bytes_asked (qualified o f v) = eqb (field_value cat f) 0

  abbrev pub bytes_level : Level → Bool
  bytes_level l = bytes_asked l.asked

not-false : (b : Bool) → not b ≡ false → b ≡ true
not-false true e = refl
not-false false e = sym e

module _ (cat : Bytes) (list : Bytes) where
  abbrev pub bytes_argument : Argument → Bool
  bytes_argument a = eqb (key_value cat a.code) 0 && bytes_asked cat (meant cat list a.qualification)

  abbrev bytes_read : Result Argument Status → Type 0
  bytes_read (Err s) = Unit {0}
  bytes_read (Ok a) = bytes_argument a ≡ true

  -- the tests of an argument in their order: what is got, plain or with a test, has come by those that matter
  argument-of : (a b c d e f g : Bool) (plain test : Argument)
      → (a ≡ false → bytes_argument plain ≡ true) → (a ≡ false → f ≡ false → bytes_argument test ≡ true)
      → bytes_read (pick a (Err AC) (pick b (Err AJ) (pick c (Ok plain)
      (pick d (Err AJ) (pick e (Err AJ) (pick f (Err AK) (pick g (Err AJ) (Ok test))))))))
  argument-of true b c d e f g plain test p t = tt
  argument-of false true c d e f g plain test p t = tt
  argument-of false false true d e f g plain test p t = p refl
  argument-of false false false true e f g plain test p t = tt
  argument-of false false false false true f g plain test p t = tt
  argument-of false false false false false true g plain test p t = tt
  argument-of false false false false false false true plain test p t = tt
  argument-of false false false false false false false plain test p t = t refl refl

  -- an argument that is got and a rest of such
  read-bytes : (end : Bool) (next : Result Argument Status) (rest : TypeCode → ℕ → ListRead) → bytes_read next
      → ((t : TypeCode) (at : ℕ) → every bytes_argument (rest t at).arguments ≡ true) → every bytes_argument (read_on end next rest).arguments ≡ true
  read-bytes true next rest h k = every-none bytes_argument
  read-bytes false (Err s) rest h k = every-none bytes_argument
  read-bytes false (Ok a) rest h k = every_in bytes_argument a (rest a.code a.next).arguments h ∙ k a.code a.next

  module _ (only : bytes_only cat ≡ true) where
    -- what may come next is a type, and what is tested is a field of it
    next-bytes : (before t : TypeCode) → not (good_next cat list before t) ≡ false → eqb (key_value cat t) 0 ≡ true
    unfolding good_next
    next-bytes before t e =
        type-bytes cat only t (both_left (is_type cat t) (eqb before.0 0 || type_beneath cat t before) (not-false (good_next cat list before t) e))

    argument-bytes : (before : TypeCode) (at : ℕ) → bytes_read (Before.argument_at cat list before at)
    unfolding Before.argument_at
    argument-bytes before at =
        let t : TypeCode = code (byte list at) in
        let f : FieldNumber = field (byte list (at + 2)) in
        let o : ℕ = byte list (at + 1) in
        argument-of (not (good_next cat list before t)) (leb (length list) (at + 1)) (eqb o 0) (ltb 6 o) (leb (length list) (at + 2))
        (not (is_field_of cat list t f)) (ltb (length list) (at + 3 + field_length cat f))
        (record { code = t; qualification = None; next = at + 2 })
        (record { code = t; qualification = test (operator_of o) f (at + 3); next = at + 3 + field_length cat f })
        (λ e. rw (next-bytes before t e))
        (λ e h. rw (next-bytes before t e, field-bytes cat only list t f (not-false (is_field_of cat list t f) h)))

    arguments-bytes : (n : ℕ) (before : TypeCode) (at : ℕ) → every bytes_argument (Before.arguments_from cat list n before at).arguments ≡ true
    unfolding Before.arguments_from
    arguments-bytes zero before at = every-none bytes_argument
    arguments-bytes (suc n) before at =
        read-bytes (leb (length list) at) (Before.argument_at cat list before at) (Before.arguments_from cat list n) (argument-bytes before at)
        (λ t i. arguments-bytes n t i)

    -- LAW: each argument that was read, up to the first fault
    pub list-bytes : every bytes_argument (Before.list_read cat list).arguments ≡ true
    unfolding Before.list_read
    list-bytes = arguments-bytes (length list) (code 0) 0

  -- what such arguments ask of a type
  asked-bytes : (ar : List Argument) (t : TypeCode) → every bytes_argument ar ≡ true → bytes_asked cat (asked_of cat list ar t) ≡ true
  unfolding asked_of
  asked-bytes [] t e = refl
  asked-bytes (a ∷ ar) t e =
      let p = every-parts bytes_argument a ar e in
      elim (is (same_type a.code t)) [
        | on h ↦ rw (asked_of, h) (both_right (eqb (key_value cat a.code) 0) (bytes_asked cat (meant cat list a.qualification)) p.0)
        | off h ↦ rw (asked_of, h) (asked-bytes ar t p.1)
      ]

  -- so of every level that the list is completed by
  complete-bytes : (ar : List Argument) (t : TypeCode) → every bytes_argument ar ≡ true → every (bytes_level cat) (complete cat list ar t) ≡ true
  unfolding complete
  complete-bytes ar t e =
      every_made (bytes_level cat) (λ u. record { code = code u; asked = asked_of cat list ar (code u) })
      (λ u. asked-bytes ar (code u) e) (reverse (lineage cat t))

  pub get-bytes : (ar : List Argument) → every bytes_argument ar ≡ true → every (bytes_level cat) (get_levels cat list ar) ≡ true
  get-bytes [] e = every-none (bytes_level cat)
  get-bytes (a ∷ ar) e = complete-bytes (a ∷ ar) (last_argument (a ∷ ar)).code e

  pub parent-bytes : (ar : List Argument) → every bytes_argument ar ≡ true → every (bytes_level cat) (parent_levels cat list ar) ≡ true
  parent-bytes ar e = complete-bytes ar (parent_of cat (last_argument ar).code) e

  -- the type that ISRT is about; of no argument it is code 0, which is none, and what it reads is a zero of the header
  pub last-bytes : (ar : List Argument) → eqb (key_value cat (code 0)) 0 ≡ true → every bytes_argument ar ≡ true
      → eqb (key_value cat (last_argument ar).code) 0 ≡ true
  last-bytes [] z e = z
  last-bytes (a ∷ []) z e =
      both_left (eqb (key_value cat a.code) 0) (bytes_asked cat (meant cat list a.qualification)) (every-parts bytes_argument a [] e).0
  last-bytes (a ∷ b ∷ ar) z e = last-bytes (b ∷ ar) z (every-parts bytes_argument a (b ∷ ar) e).1
