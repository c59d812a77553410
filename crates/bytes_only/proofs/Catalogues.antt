-- The catalogues of before: the check took the entries that it takes now and that have no value type but bytes. Assumes nothing.
use mathlib.Core.Path.{◌≡◌, refl, ap, sym, ◌∙◌}
use mathlib.Core.Bool.{Bool, true, false, ◌&&◌, and-true, and-false, and_assoc}
use mathlib.Core.List.{List, [], ◌∷◌}
use Prim.Native.Nat.{ℕ, zero, suc, ◌+◌, ◌*◌}
use native.Mathlib.Omega.{arith}
use lib.Dec.{eqb}
use lib.ListN.{take, drop}
use lib.Seq.{get_or-drop}
use borrow.Author.Tests.{eqb-true}
use Rattle.terms.specs.declared.TypeCode.{TypeCode}
use Rattle.terms.specs.Names.{code, field}
use Rattle.forest.specs.Good.{on, off, is}
use Rattle.forest.specs.Numbers.{range}
use Rattle.rules.specs.Block.{Bytes, byte, part, every, zeros}
use Rattle.rules.specs.Catalogue.{types, fields, key_value, type_byte, field_byte}
use Rattle.rules.specs.Catalogue.{field_value, good_key, good_type, good_field, good_header, good_catalogue}
use Rattle.rules.proofs.Every.{every-cons}
use Rattle.bytes_only.specs.Before as Before
use Rattle.bytes_only.specs.AsBefore.{bytes_only, CataloguesOfBefore}
use Rattle.bytes_only.proofs.Rows.{crossed, every-both}

-- zeros, byte by byte
zeros-cons : (x : ℕ) (b : Bytes) → zeros (x ∷ b) ≡ (eqb x 0 && zeros b)
unfolding zeros
zeros-cons x b = every-cons (λ y. eqb y 0) x b

zeros-none : zeros [] ≡ true
unfolding zeros every
zeros-none = refl

-- one byte more is zero too; past the end a byte reads as 0
zeros-more : (n : ℕ) (b : Bytes) → zeros (take (suc n) b) ≡ (zeros (take n b) && eqb (byte b n) 0)
zeros-more zero [] = rw zeros-none
zeros-more (suc n) [] = rw zeros-none
zeros-more zero (x ∷ b) = rw (zeros-cons x [], zeros-none) (and-true (eqb x 0))
zeros-more (suc n) (x ∷ b) =
    rw (zeros-cons x (take (suc n) b), zeros-cons x (take n b), zeros-more n b) (sym (and_assoc (eqb x 0) (zeros (take n b)) (eqb (byte b n) 0)))

module _ (cat : Bytes) where
  -- the third of the three zero bytes was the one that is the key's value type now
  zeros-value : (k : ℕ) → zeros (part cat (8 * k + 5) 3) ≡ (zeros (part cat (8 * k + 5) 2) && eqb (key_value cat (code k)) 0)
  unfolding key_value type_byte
  zeros-value k =
      let z : 8 * k + 5 + 2 ≡ 8 * k + 7 = omega arith in
      zeros-more 2 (drop (8 * k + 5) cat)
      ∙ ap (λ (x : ℕ). zeros (part cat (8 * k + 5) 2) && eqb x 0) (get_or-drop (8 * k + 5) cat 2 0 ∙ ap (byte cat) z)

  -- a key of bytes is right where it was
  key-before : (t : TypeCode) → eqb (key_value cat t) 0 ≡ true → good_key cat t ≡ Before.good_key cat t
  unfolding good_key Before.good_key
  key-before t e =
      let z : key_value cat t ≡ 0 = eqb-true (key_value cat t) 0 e in
      simp (z, and-true)

  -- an entry was right where it is right now and of bytes
  type-before : (k : ℕ) → Before.good_type cat k ≡ (good_type cat k && eqb (key_value cat (code k)) 0)
  unfolding good_type Before.good_type
  type-before k = elim (is (eqb (key_value cat (code k)) 0)) [
    | on e ↦ simp (zeros-value k, e, and-true, key-before (code k) e)
    | off e ↦ simp (zeros-value k, e, and-false)
  ]

  -- the last byte of a field's entry was a zero, and is its value type now
  field-before : (f : ℕ) → Before.good_field cat f ≡ (good_field cat f && eqb (field_value cat (field f)) 0)
  unfolding good_field Before.good_field field_value
  field-before f = elim (is (eqb (field_byte cat (field f) 3) 0)) [
    | on e ↦ (let z : field_byte cat (field f) 3 ≡ 0 = eqb-true (field_byte cat (field f) 3) 0 e in simp (z, and-true))
    | off e ↦ simp (e, and-false)
  ]

-- the two tests of the types and the two of the fields, each kind behind the header
gathered : (h a b c d : Bool) → (h && (a && b) && (c && d)) ≡ ((h && a && c) && (b && d))
gathered true a b c d = crossed a b c d
gathered false a b c d = refl

-- THEOREM: what was a good catalogue is one now, and has no value type but bytes
pub catalogues-of-before : CataloguesOfBefore
unfolding good_catalogue Before.good_catalogue bytes_only
catalogues-of-before cat =
    let of_bytes : ℕ → Bool = λ k. eqb (key_value cat (code k)) 0 in
    let field_of_bytes : ℕ → Bool = λ f. eqb (field_value cat (field f)) 0 in
    let ts : List ℕ = range 1 (types cat) in
    let fs : List ℕ = range 1 (fields cat) in
    rw (
      every-both (Before.good_type cat) (good_type cat) of_bytes (type-before cat) ts,
      every-both (Before.good_field cat) (good_field cat) field_of_bytes (field-before cat) fs,
    )
    (gathered (good_header cat) (every (good_type cat) ts) (every of_bytes ts) (every (good_field cat) fs) (every field_of_bytes fs))

-- of bytes alone the check answers as before
pub good-before : (cat : Bytes) → bytes_only cat ≡ true → good_catalogue cat ≡ Before.good_catalogue cat
good-before cat b = sym (catalogues-of-before cat ∙ rw b (and-true (good_catalogue cat)))
