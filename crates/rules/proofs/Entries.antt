-- What a good catalogue says of its header and its entries, in numbers, and so of a cell. Assumes nothing.
use mathlib.Core.Path.{◌≡◌, ap}
use mathlib.Core.Bool.{true, ◌&&◌}
use Prim.Native.Nat.{ℕ, zero, suc, ◌+◌, ◌-◌, ◌*◌, ◌<◌, ◌≤◌}
use native.Mathlib.Omega.{arith}
use lib.Dec.{leb, eqb}
use lib.ListN.{length}
use borrow.Author.Tests.{lt-ltb, le-ltb, le-leb, eqb-true, eqb-false, leb-true}
use Rattle.terms.specs.declared.TypeCode.{TypeCode}
use Rattle.terms.specs.declared.FieldNumber.{FieldNumber}
use Rattle.terms.specs.Choice.{pick}
use Rattle.terms.specs.Names.{code}
use Rattle.forest.specs.Forest.{inside, outside, side}
use Rattle.forest.specs.Good.{on, off, is}
use Rattle.forest.specs.Numbers.{range}
use Rattle.rules.specs.Block.{Bytes, byte, part, every, zeros, marked}
use Rattle.rules.specs.Catalogue.{types, fields, length_of, key_kind, key_start, key_length, key_value, field_type, field_start, field_length, level}
use Rattle.rules.specs.Catalogue.{is_type, largest, good_span, good_value, good_key, good_parent, good_type, good_field, good_header, good_catalogue}
use Rattle.rules.specs.Table.{cell_size}
use Rattle.rules.proofs.Every.{every-at}
use Rattle.rules.proofs.Joined.{two, three, six, seven}
use Rattle.rules.proofs.Catalogue.{good-type}

-- R2 and R3, as facts
pub record HeaderFacts (cat : Bytes) : Type 0 where
  pub types-least : 1 ≤ types cat
  pub types-most : types cat ≤ 32
  pub fields-most : fields cat ≤ 64
  pub size : length cat ≡ 8 + 8 * types cat + 4 * fields cat

-- the entry of a type in 1..T
pub record TypeFacts (cat : Bytes) (t : TypeCode) : Type 0 where
  pub long-least : 1 ≤ length_of cat t
  pub long-most : length_of cat t ≤ 120
  pub kind-most : key_kind cat t ≤ 2
  pub no_key : key_kind cat t ≡ 0 → (key_start cat t ≡ 0) × (key_length cat t ≡ 0) × (key_value cat t ≡ 0)
  pub some_key : (key_kind cat t ≡ 0 → ⊥) → (1 ≤ key_start cat t) × (1 ≤ key_length cat t)
  pub key-within : key_start cat t + key_length cat t ≤ suc (length_of cat t)
  pub value-most : key_value cat t ≤ 1
  pub level-most : level cat t ≤ 15

-- the entry of a field in 1..F
pub record FieldFacts (cat : Bytes) (f : FieldNumber) : Type 0 where
  pub type-least : 1 ≤ (field_type cat f).0
  pub type-most : (field_type cat f).0 ≤ types cat
  pub start-least : 1 ≤ field_start cat f
  pub long-least : 1 ≤ field_length cat f
  pub within : field_start cat f + field_length cat f ≤ suc (length_of cat (field_type cat f))

-- a span as numbers
span_of : (start long most : ℕ) → good_span start long most ≡ true → (1 ≤ start) × (1 ≤ long) × (start + long ≤ suc most)
span_of start long most h =
    let p = three _ _ _ h in
    let a : 1 ≤ start = leb-true 1 start p.0 in
    let b : start + long - 1 ≤ most = leb-true (start + long - 1) most p.2 in
    (a, leb-true 1 long p.1, omega arith)

-- value types are 0 and 1
value_of : (w long : ℕ) → good_value w long ≡ true → w ≤ 1
value_of w long h = elim (is (eqb w 1)) [
  | on e ↦ omega (arith, eqb-true w 1 e)
  | off e ↦ (let z : eqb w 0 ≡ true = rw e at h in omega (arith, eqb-true w 0 z))
]

-- a key as numbers: kind 0 has start, length and value type 0
record Key (kind start long value most : ℕ) : Type 0 where
  kind-most : kind ≤ 2
  none : kind ≡ 0 → (start ≡ 0) × (long ≡ 0) × (value ≡ 0)
  some : (kind ≡ 0 → ⊥) → (1 ≤ start) × (1 ≤ long)
  within : start + long ≤ suc most
  value-most : value ≤ 1

key_of : (kind start long value most : ℕ)
    → pick (eqb kind 0) (eqb start 0 && eqb long 0 && eqb value 0) (leb kind 2 && good_span start long most && good_value value long) ≡ true
    → Key kind start long value most
key_of kind start long value most h = elim (is (eqb kind 0)) [
  | on e ↦
      let z : kind ≡ 0 = eqb-true kind 0 e in
      let f : (eqb start 0 && eqb long 0 && eqb value 0) ≡ true = rw e at h in
      let a = three _ _ _ f in
      let b : start ≡ 0 = eqb-true start 0 a.0 in
      let d : long ≡ 0 = eqb-true long 0 a.1 in
      let v : value ≡ 0 = eqb-true value 0 a.2 in
      record { kind-most = omega arith; none = λ q. (b, d, v); some = λ n. absurd (n z); within = omega arith; value-most = omega arith }
  | off e ↦
      let f : (leb kind 2 && good_span start long most && good_value value long) ≡ true = rw e at h in
      let a = three (leb kind 2) (good_span start long most) (good_value value long) f in
      let b = span_of start long most a.1 in
      record {
        kind-most = leb-true kind 2 a.0;
        none = λ q. absurd (eqb-false kind 0 e q);
        some = λ n. (b.0, b.1);
        within = b.2;
        value-most = value_of value long a.2;
      }
]

module _ (cat : Bytes) where
  -- R7: which codes are types, as numbers and back
  pub type-range : (t : TypeCode) → is_type cat t ≡ true → (1 ≤ t.0) × (t.0 ≤ types cat)
  unfolding is_type
  type-range t h = let a = two _ _ h in (leb-true 1 t.0 a.0, leb-true t.0 (types cat) a.1)

  pub range-type : (t : TypeCode) → 1 ≤ t.0 → t.0 ≤ types cat → is_type cat t ≡ true
  unfolding is_type
  range-type t a b = simp (le-leb 1 t.0 a, le-leb t.0 (types cat) b)

  -- a good header, as numbers
  pub header_of : good_header cat ≡ true → HeaderFacts cat
  unfolding good_header
  header_of h =
      let q = seven (leb 8 (length cat)) (marked 0x43 cat) _ _ _ (eqb (byte cat 7) 0) _ h in
      record {
        types-least = leb-true 1 (types cat) q.2;
        types-most = leb-true (types cat) 32 q.3;
        fields-most = leb-true (fields cat) 64 q.4;
        size = eqb-true (length cat) (8 + 8 * types cat + 4 * fields cat) q.6;
      }

  -- the greater of the two, when one more type is looked at
  larger : (n most : ℕ) → largest cat n ≤ most → length_of cat (code (suc n)) ≤ most → largest cat (suc n) ≤ most
  unfolding largest
  larger n most a b = elim (side (largest cat n) (length_of cat (code (suc n)))) [
    | inside l ↦ rw (largest, lt-ltb (largest cat n) (length_of cat (code (suc n))) l) b
    | outside l ↦ rw (largest, le-ltb (largest cat n) (length_of cat (code (suc n))) l) a
  ]

  grown : (n : ℕ) → (largest cat n ≤ largest cat (suc n)) × (length_of cat (code (suc n)) ≤ largest cat (suc n))
  unfolding largest
  grown n = elim (side (largest cat n) (length_of cat (code (suc n)))) [
    | inside l ↦ rw (largest, lt-ltb (largest cat n) (length_of cat (code (suc n))) l) (omega arith, omega arith)
    | outside l ↦ rw (largest, le-ltb (largest cat n) (length_of cat (code (suc n))) l) (omega arith, omega arith)
  ]

  -- the largest L up to type n is no smaller than the L of a type up to there, and no greater than what bounds them all
  pub length-largest : (t : TypeCode) (n : ℕ) → 1 ≤ t.0 → t.0 ≤ n → length_of cat t ≤ largest cat n
  length-largest t zero a b = absurd (omega arith)
  length-largest t (suc n) a b = elim (side t.0 (suc n)) [
    | inside l ↦ omega (arith, (grown n).0, length-largest t n a (omega arith))
    | outside l ↦
        let z : t.0 ≡ suc n = omega arith in
        let e : length_of cat t ≡ length_of cat (code (suc n)) = ap (λ (u : ℕ). length_of cat (code u)) z in
        omega (arith, (grown n).1)
  ]

  pub largest-bound : (n most : ℕ) → ((u : ℕ) → 1 ≤ u → u ≤ n → length_of cat (code u) ≤ most) → largest cat n ≤ most
  unfolding largest
  largest-bound zero most h = omega arith
  largest-bound (suc n) most h = larger n most (largest-bound n most (λ u a b. h u a (omega arith))) (h (suc n) (omega arith) (omega arith))

  -- a type's code and bytes go into a cell
  pub length-cell : (t : TypeCode) → is_type cat t ≡ true → length_of cat t < cell_size cat
  unfolding cell_size
  length-cell t e = omega (arith, length-largest t (types cat) (type-range t e).0 (type-range t e).1)

  pub cell-some : 0 < cell_size cat
  unfolding cell_size
  cell-some = omega arith

  module _ (g : good_catalogue cat ≡ true) where
    split : (good_header cat ≡ true) × (every (good_type cat) (range 1 (types cat)) ≡ true) × (every (good_field cat) (range 1 (fields cat)) ≡ true)
    unfolding good_catalogue
    split = three _ _ _ g

    pub header-facts : HeaderFacts cat
    header-facts = header_of split.0

    pub type-facts : (t : TypeCode) → 1 ≤ t.0 → t.0 ≤ types cat → TypeFacts cat t
    unfolding good_type good_key
    type-facts t a b =
        let p = six (good_parent cat t.0) _ _ _ (zeros (part cat (8 * t.0 + 5) 2)) _ (good-type cat g t.0 a b) in
        let k = key_of (key_kind cat t) (key_start cat t) (key_length cat t) (key_value cat t) (length_of cat t) p.3 in
        record {
          long-least = leb-true 1 (length_of cat t) p.1;
          long-most = leb-true (length_of cat t) 120 p.2;
          kind-most = k.kind-most;
          no_key = k.none;
          some_key = k.some;
          key-within = k.within;
          value-most = k.value-most;
          level-most = leb-true (level cat t) 15 p.5;
        }

    pub field-facts : (f : FieldNumber) → 1 ≤ f.0 → f.0 ≤ fields cat → FieldFacts cat f
    unfolding good_field
    field-facts f a b =
        let h : good_field cat f.0 ≡ true = every-at (good_field cat) 1 (fields cat) f.0 split.2 a (omega arith) in
        let p = three (is_type cat (field_type cat f)) (good_span (field_start cat f) (field_length cat f) (length_of cat (field_type cat f))) _ h in
        let r = type-range (field_type cat f) p.0 in
        let s = span_of (field_start cat f) (field_length cat f) (length_of cat (field_type cat f)) p.1 in
        record { type-least = r.0; type-most = r.1; start-least = s.0; long-least = s.1; within = s.2 }

    pub largest-most : largest cat (types cat) ≤ 120
    largest-most = largest-bound (types cat) 120 (λ u a b. (type-facts (code u) a b).long-most)

    pub cell-least : 2 ≤ cell_size cat
    unfolding cell_size
    cell-least =
        let h = header-facts in
        let a : 1 ≤ length_of cat (code 1) = (type-facts (code 1) (omega arith) (omega arith)).long-least in
        omega (arith, length-largest (code 1) (types cat) (omega arith) (omega arith))

    pub cell-most : cell_size cat ≤ 121
    unfolding cell_size
    cell-most = omega (arith, largest-most)

    -- a cell of any type has room for its data
    pub cell_holds : (t : TypeCode) → 1 ≤ t.0 → t.0 ≤ types cat → suc (length_of cat t) ≤ cell_size cat
    cell_holds t a b = length-cell t (range-type t a b)

    -- and its code is a byte
    pub type-low : (t : TypeCode) → is_type cat t ≡ true → t.0 < 256
    type-low t e = omega (arith, (type-range t e).1, header-facts.types-most)
