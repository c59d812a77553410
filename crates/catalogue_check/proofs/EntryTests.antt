-- What a test of an entry says: of the two zero bytes, of a key, of a parent, of a type and of a field. Assumes nothing.
use mathlib.Core.Path.{◌≡◌, ◌∙◌}
use mathlib.Core.Bool.{Bool, true, false, ◌&&◌, and-true}
use mathlib.Core.List.{[], ◌∷◌}
use Prim.Native.Nat.{ℕ, suc, ◌+◌, ◌*◌}
use native.Mathlib.Omega.{arith}
use lib.Dec.{leb, eqb}
use lib.ListN.{get_or, take, drop}
use lib.Seq.{take-nil, get_or-drop, drop-drop}
use Rattle.terms.specs.declared.TypeCode.{TypeCode}
use Rattle.terms.specs.Names.{field}
use Rattle.forest.specs.Good.{on, off, is}
use Rattle.forest.specs.Types.{lineage as lineage_over, lineage_from}
use Rattle.rules.specs.Block.{Bytes, part, zeros, every}
use Rattle.rules.specs.Catalogue.{type_byte, length_of, lineage, is_type}
use Rattle.rules.specs.Catalogue.{field_type, field_start, field_length, field_value}
use Rattle.rules.specs.Catalogue.{good_span, good_value, good_key, good_parent, good_field}
use Rattle.rules.proofs.Every.{every_in, every-out}

-- one byte less to be zero; past the end of the block there is nothing, which reads as 0
zeros-take : (n : ℕ) (xs : Bytes) → zeros (take (suc n) xs) ≡ (eqb (get_or xs 0 0) 0 && zeros (take n (drop 1 xs)))
unfolding zeros
zeros-take n [] = rw (take-nil n)
zeros-take n (x ∷ xs) = elim (is (eqb x 0)) [
  | on h ↦ rw h (every_in (λ y. eqb y 0) x (take n xs) h)
  | off h ↦ rw h (every-out (λ y. eqb y 0) x (take n xs) h)
]

-- the bytes of an entry from byte k on: the first of them and those behind it, or the last alone
module _ (cat : Bytes) (t : TypeCode) (k : ℕ) where
  pub entry-zeros : (n : ℕ) → zeros (part cat (8 * t.0 + k) (suc n)) ≡ (eqb (type_byte cat t k) 0 && zeros (part cat (8 * t.0 + (k + 1)) n))
  unfolding type_byte
  entry-zeros n =
      let a : 8 * t.0 + k + 0 ≡ 8 * t.0 + k = omega arith in
      let b : 8 * t.0 + k + 1 ≡ 8 * t.0 + (k + 1) = omega arith in
      zeros-take n (drop (8 * t.0 + k) cat) ∙ simp (get_or-drop, drop-drop, a, b)

  pub entry_zero : zeros (part cat (8 * t.0 + k) 1) ≡ eqb (type_byte cat t k) 0
  unfolding zeros every
  entry_zero = entry-zeros 0 ∙ and-true (eqb (type_byte cat t k) 0)

-- the two zeros of R4
pub two_zeros : (cat : Bytes) (t : TypeCode) → zeros (part cat (8 * t.0 + 5) 2) ≡ (eqb (type_byte cat t 5) 0 && eqb (type_byte cat t 6) 0)
two_zeros cat t = entry-zeros cat t 5 1 ∙ rw (entry_zero cat t 6)

-- no type 0 has a parent
pub parent_none : (cat : Bytes) (k : ℕ) → k ≡ 0 → false ≡ good_parent cat k
unfolding good_parent lineage lineage_over lineage_from
parent_none cat k e = rw e

-- an entry that is right by itself has a good parent
pub entry-parent : (cat : Bytes) (t : TypeCode)
    → (good_parent cat t.0 && leb 1 (length_of cat t) && leb (length_of cat t) 120 && good_key cat t && zeros (part cat (8 * t.0 + 5) 2)) ≡ true
    → good_parent cat t.0 ≡ true
entry-parent cat t e = elim (is (good_parent cat t.0)) [
  | on h ↦ h
  | off h ↦ rw h (rw h at e)
]

-- a field's tests: t is the type that its entry names, s its start, l its length, m that type's length, w its value type
module _ (cat : Bytes) (f : ℕ) (t : TypeCode) (of : t ≡ field_type cat (field f)) where
  module _ (known : is_type cat t ≡ true) (s l m : ℕ) (from : s ≡ field_start cat (field f)) (long : l ≡ field_length cat (field f))
      (most : m ≡ length_of cat t) where
    pub field-no-span : good_span s l m ≡ false → false ≡ good_field cat f
    unfolding good_field
    field-no-span e = rw (← of, known, ← from, ← long, ← most, e)

    pub field-last : good_span s l m ≡ true → (w : ℕ) → w ≡ field_value cat (field f) → (r : Bool) → r ≡ good_value w l → r ≡ good_field cat f
    unfolding good_field
    field-last e w g r h = rw (← of, known, ← from, ← long, ← most, e, ← g) h
