-- The two blocks of a sound draft with a type are a pair that the writer accepts. Assumes nothing.
use mathlib.Core.Path.{◌≡◌, refl, ap, sym, ◌∙◌}
use mathlib.Core.Bool.{Bool, true, false, ◌&&◌, ◌||◌}
use mathlib.Core.List.{List, [], ◌∷◌}
use Prim.Native.Nat.{ℕ, zero, suc, ◌+◌, ◌-◌, ◌*◌, ◌<◌, ◌≤◌}
use native.Mathlib.Omega.{arith}
use lib.Dec.{ltb, leb, eqb}
use lib.ListN.{length, get_or, length-append}
use borrow.Author.Tests.{lt-ltb, le-leb, eq-eqb, eqb-false}
use Rattle.terms.specs.Names.{code, field}
use Rattle.forest.specs.Forest.{inside, outside, side}
use Rattle.forest.specs.Good.{on, off, is}
use Rattle.forest.specs.Numbers.{range}
use Rattle.rules.specs.Block.{Bytes, byte, word, part, every, zeros, marked}
use Rattle.rules.specs.Catalogue.{types, fields, type_byte, length_of, key_kind, key_start, key_length, field_byte, field_type, field_start, field_length, level}
use Rattle.rules.specs.Catalogue.{good_key, good_parent, good_type, good_field, good_header, good_catalogue}
use Rattle.rules.proofs.Every.{every_in}
use Rattle.rules.proofs.Joined.{two, six}
use Rattle.statements.specs.Draft.{Draft, header, catalogue_of, names_of, rows, own_names}
use Rattle.statements.specs.Dbd.{name_at, good_name, distinct, first_of, those, own_fields, is_key_of, key_field}
use Rattle.statements.specs.Dbd.{is_plain, good_names, differ, ascending, keys_listed, could_give}
use Rattle.statements.proofs.Words.{clash}
use Rattle.statements.proofs.Joined.{All, Wide, all-at, all_append, all-mono}
use Rattle.statements.proofs.Named.{name-long}
use Rattle.statements.proofs.Frame.{ending-zeros, spare-zeros}
use Rattle.dbd_laws.proofs.Blocks.{T, F, types_are, fields-are, catalogue-ends, catalogue-marked, names_marked, names-header, all_names}
use Rattle.dbd_laws.proofs.Blocks.{field-byte, fields-rows, catalogue-length, name-at, segments-rows, names-rows, names-length}
use Rattle.dbd_laws.proofs.Sound.{Fits, Listed, Sound, type-byte-at, fits-field}

every-none : (p : ℕ → Bool) → every p [] ≡ true
unfolding every
every-none p = refl

-- what holds of each number of a range
pub every-range : (p : ℕ → Bool) (i n : ℕ) → ((u : ℕ) → i ≤ u → u < i + n → p u ≡ true) → every p (range i n) ≡ true
every-range p i zero f = every-none p
every-range p i (suc n) f =
    every_in p i (range (suc i) n) (f i (omega arith) (omega arith)) ∙ every-range p (suc i) n (λ u a b. f u (omega arith) (omega arith))

two-on : (a b : Bool) → a ≡ true → b ≡ true → (a && b) ≡ true
two-on a b e f = rw (e, f)

three-on : (a b c : Bool) → a ≡ true → b ≡ true → c ≡ true → (a && b && c) ≡ true
three-on a b c e f g = rw (e, f, g)

six-on : (a b c d e f : Bool) → a ≡ true → b ≡ true → c ≡ true → d ≡ true → e ≡ true → f ≡ true → (a && b && c && d && e && f) ≡ true
six-on a b c d e f ha hb hc hd he hf = rw (ha, hb, hc, hd, he, hf)

seven-on : (a b c d e f g : Bool) → a ≡ true → b ≡ true → c ≡ true → d ≡ true → e ≡ true → f ≡ true → g ≡ true → (a && b && c && d && e && f && g) ≡ true
seven-on a b c d e f g ha hb hc hd he hf hg = rw (ha, hb, hc, hd, he, hf, hg)

-- the first of some numbers is there where one of them passes
module _ (p q : ℕ → Bool) where
  those-in : (i : ℕ) (is : List ℕ) → q i ≡ true → those q (i ∷ is) ≡ i ∷ those q is
  unfolding those
  those-in i is h = rw (those, h)

  those-out : (i : ℕ) (is : List ℕ) → q i ≡ false → those q (i ∷ is) ≡ those q is
  unfolding those
  those-out i is h = rw (those, h)

  first-in : (i : ℕ) (is : List ℕ) → p i ≡ true → first_of p (i ∷ is) ≡ i
  unfolding first_of
  first-in i is h = rw (first_of, h)

  first_out : (i : ℕ) (is : List ℕ) → p i ≡ false → first_of p (i ∷ is) ≡ first_of p is
  unfolding first_of
  first_out i is h = rw (first_of, h)

  -- a number that fails the test is not the one that passes
  behind : (t : ℕ → Bool) (i u : ℕ) → i ≤ u → t i ≡ false → t u ≡ true → suc i ≤ u
  behind t i u a h g = elim (side i u) [
    | inside l ↦ omega arith
    | outside l ↦ (let z : u ≡ i = omega arith in clash (sym h ∙ ap t (sym z) ∙ g))
  ]

  pub first-there : (i n u : ℕ) → 1 ≤ i → i ≤ u → u < i + n → q u ≡ true → p u ≡ true → 0 < first_of p (those q (range i n))
  first-there i zero u o a b f g = absurd (omega arith)
  first-there i (suc n) u o a b f g = elim (is (q i)) [
    | on h ↦ elim (is (p i)) [
      | on k ↦ rw (those-in i (range (suc i) n) h, first-in i (those q (range (suc i) n)) k) (omega arith)
      | off k ↦ rw (those-in i (range (suc i) n) h, first_out i (those q (range (suc i) n)) k)
          (first-there (suc i) n u (omega arith) (behind p i u a k g) (omega arith) f g)
    ]
    | off h ↦ rw (those-out i (range (suc i) n) h) (first-there (suc i) n u (omega arith) (behind q i u a h f) (omega arith) f g)
  ]

module _ (d : Draft) (s : Sound d) (some : 0 < T d) where
  abbrev cat : Bytes
  cat = catalogue_of d

  abbrev names : Bytes
  names = names_of d

  base-good : good_name d.base ≡ true
  base-good = s.based (s.begins some)

  base-long : length d.base ≡ 8
  base-long = name-long d.base base-good

  segments-wide : Wide 8 d.segment_names
  segments-wide = all-mono (λ n. good_name n ≡ true) (λ n. length n ≡ 8) name-long d.segment_names s.good-segments

  names-wide : Wide 8 d.field_names
  names-wide = all-mono (λ n. good_name n ≡ true) (λ n. length n ≡ 8) name-long d.field_names s.good-fields

  -- R2 to R8
  header-good : good_header cat ≡ true
  unfolding good_header
  header-good =
      let a : types cat ≡ T d = types_are d in
      let b : fields cat ≡ F d = fields-are d in
      let c : length cat ≡ 8 + 8 * T d + 4 * F d = catalogue-length d s.wide-types s.wide-fields in
      seven-on (leb 8 (length cat)) (marked 0x43 cat) (leb 1 (types cat)) (leb (types cat) 32) (leb (fields cat) 64) (eqb (byte cat 7) 0)
      (eqb (length cat) (8 + 8 * types cat + 4 * fields cat))
      (le-leb 8 (length cat) (omega arith)) (catalogue-marked d) (le-leb 1 (types cat) (omega arith)) (le-leb (types cat) 32 (omega (arith, s.few-types)))
      (le-leb (fields cat) 64 (omega (arith, s.few-fields))) (eq-eqb (byte cat 7) 0 (catalogue-ends d))
      (eq-eqb (length cat) (8 + 8 * types cat + 4 * fields cat) (omega arith))

  type-good : (k : ℕ) → 1 ≤ k → k < 1 + types cat → good_type cat k ≡ true
  type-good k a b = s.each-type k a (omega (arith, types_are d))

  field_fit : (i : ℕ) → i < F d → Fits d.types (get_or d.fields i [])
  field_fit i l = all-at (Fits d.types) d.fields s.each-field i [] l

  field-good : (f : ℕ) → 1 ≤ f → f < 1 + fields cat → good_field cat f ≡ true
  field-good zero a b = absurd (omega arith)
  field-good (suc i) a b =
      let l : i < F d = omega (arith, fields-are d) in
      fits-field d s.wide-types s.wide-fields i l (field_fit i l)

  pub catalogue-good : good_catalogue cat ≡ true
  unfolding good_catalogue
  catalogue-good =
      three-on (good_header cat) (every (good_type cat) (range 1 (types cat))) (every (good_field cat) (range 1 (fields cat))) header-good
      (every-range (good_type cat) 1 (types cat) type-good) (every-range (good_field cat) 1 (fields cat) field-good)

  -- R82: version 1, and every value type 0
  version-one : word cat 3 ≡ 1
  unfolding catalogue_of header
  version-one = refl

  spare-plain : (k : ℕ) → good_type cat k ≡ true → zeros (part cat (8 * k + 5) 2) ≡ true
  unfolding good_type
  spare-plain k g =
      (six (good_parent cat k) (leb 1 (length_of cat (code k))) (leb (length_of cat (code k)) 120) (good_key cat (code k)) (zeros (part cat (8 * k + 5) 2))
      (leb (level cat (code k)) 15) g).4

  value-plain : (k : ℕ) → 1 ≤ k → k < 1 + types cat → type_byte cat (code k) 7 ≡ 0
  value-plain k a b =
      let l : k ≤ T d = omega (arith, types_are d) in
      type-byte-at d s.wide-types k 7 a l (omega arith) ∙ all-at (λ e. byte e 7 ≡ 0) d.types s.plain-types (k - 1) [] (omega arith)

  ends-plain : (k : ℕ) → 1 ≤ k → k < 1 + types cat → zeros (part cat (8 * k + 5) 3) ≡ true
  ends-plain k a b =
      let p = two (eqb (type_byte cat (code k) 5) 0) (eqb (type_byte cat (code k) 6) 0) (sym (spare-zeros cat k) ∙ spare-plain k (type-good k a b)) in
      ending-zeros cat k ∙ rw (p.0, p.1, value-plain k a b)

  field_plain : (f : ℕ) → 1 ≤ f → f < 1 + fields cat → eqb (field_byte cat (field f) 3) 0 ≡ true
  field_plain zero a b = absurd (omega arith)
  field_plain (suc i) a b =
      let l : i < F d = omega (arith, fields-are d) in
      eq-eqb (field_byte cat (field (suc i)) 3) 0 (field-byte d s.wide-types s.wide-fields i 3 l (omega arith) ∙ (field_fit i l).plain)

  pub catalogue-plain : is_plain cat ≡ true
  unfolding is_plain
  catalogue-plain =
      three-on (eqb (word cat 3) 1) (every (λ k. zeros (part cat (8 * k + 5) 3)) (range 1 (types cat)))
      (every (λ f. eqb (field_byte cat (field f) 3) 0) (range 1 (fields cat))) (eq-eqb (word cat 3) 1 version-one)
      (every-range (λ k. zeros (part cat (8 * k + 5) 3)) 1 (types cat) ends-plain)
      (every-range (λ f. eqb (field_byte cat (field f) 3) 0) 1 (fields cat) field_plain)

  -- R82: every name is one
  all-good : All (λ n. good_name n ≡ true) (all_names d)
  all-good = (base-good, all_append (λ n. good_name n ≡ true) d.segment_names d.field_names s.good-segments s.good-fields)

  all-count : length (all_names d) ≡ 1 + T d + F d
  all-count = omega (arith, length-append d.segment_names d.field_names, s.all_named, s.each-named)

  name-good : (i : ℕ) → i < 1 + T d + F d → good_name (name_at names i) ≡ true
  name-good i l =
      let m : i < length (all_names d) = omega (arith, all-count) in
      ap good_name (name-at d base-long segments-wide names-wide i m) ∙ all-at (λ n. good_name n ≡ true) (all_names d) all-good i [] m

  pub names-good : good_names cat names ≡ true
  unfolding good_names
  names-good =
      let a : types cat ≡ T d = types_are d in
      let b : fields cat ≡ F d = fields-are d in
      let h = names-header d in
      six-on (eqb (length names) (16 + 8 * types cat + 8 * fields cat)) (marked 0x4E names) (eqb (byte names 5) (types cat)) (eqb (byte names 6) (fields cat))
      (eqb (byte names 7) 0) (every (λ i. good_name (name_at names i)) (range 0 (1 + types cat + fields cat)))
      (eq-eqb (length names) (16 + 8 * types cat + 8 * fields cat)
      (omega (arith, names-length d base-long segments-wide names-wide, s.all_named, s.each-named)))
      (names_marked d) (eq-eqb (byte names 5) (types cat) (h.0 ∙ sym a)) (eq-eqb (byte names 6) (fields cat) (h.1 ∙ sym b)) (eq-eqb (byte names 7) 0 h.2)
      (every-range (λ i. good_name (name_at names i)) 0 (1 + types cat + fields cat) (λ i l m. name-good i (omega arith)))

  -- R82: the names differ
  segments-are : rows 8 names 16 (types cat) ≡ d.segment_names
  segments-are =
      let a : types cat ≡ length d.segment_names = types_are d ∙ sym s.all_named in
      rw a (segments-rows d base-long segments-wide names-wide)

  entries-are : rows 4 cat (8 + 8 * types cat) (fields cat) ≡ d.fields
  entries-are = rw (types_are d, fields-are d) (fields-rows d s.wide-types s.wide-fields)

  names-are : rows 8 names (16 + 8 * types cat) (fields cat) ≡ d.field_names
  names-are =
      let a : types cat ≡ length d.segment_names = types_are d ∙ sym s.all_named in
      let b : fields cat ≡ length d.field_names = fields-are d ∙ sym s.each-named in
      rw (a, b) (names-rows d base-long segments-wide names-wide)

  pub names-differ : differ cat names ≡ true
  unfolding differ
  names-differ =
      rw (segments-are, entries-are, names-are)
      (two-on (distinct d.segment_names) (every (λ k. distinct (own_names k d.fields d.field_names)) (range 1 (types cat))) s.apart-segments
      (every-range (λ k. distinct (own_names k d.fields d.field_names)) 1 (types cat) (λ k a b. s.apart-fields k)))

  -- R82: fields stand by their types
  field_of : (i : ℕ) → i < F d → (field_type cat (field (suc i))).0 ≡ byte (get_or d.fields i []) 0
  unfolding field_type
  field_of i l = field-byte d s.wide-types s.wide-fields i 0 l (omega arith)

  climbs : (f : ℕ) → 1 ≤ f → f < 1 + (fields cat - 1) → leb (field_type cat (field f)).0 (field_type cat (field (suc f))).0 ≡ true
  climbs zero a b = absurd (omega arith)
  climbs (suc i) a b =
      let l : suc i < F d = omega (arith, fields-are d) in
      le-leb (field_type cat (field (suc i))).0 (field_type cat (field (suc (suc i)))).0
      (omega (arith, field_of i (omega arith), field_of (suc i) l, s.rising i l))

  pub fields-ascend : ascending cat ≡ true
  unfolding ascending
  fields-ascend = every-range (λ f. leb (field_type cat (field f)).0 (field_type cat (field (suc f))).0) 1 (fields cat - 1) climbs

  -- R82: every key is a field too
  module _ (i : ℕ) (l : i < T d) where
    abbrev entry : Bytes
    entry = get_or d.types i []

    type-says : (j : ℕ) → j < 8 → type_byte cat (code (suc i)) j ≡ byte entry j
    type-says j m = let z : suc i - 1 ≡ i = omega arith in type-byte-at d s.wide-types (suc i) j (omega arith) (omega arith) m ∙ rw z

    key-there : Listed d.fields (suc i) (byte entry 3) (byte entry 4) → 0 < key_field cat (suc i)
    unfolding key_field own_fields is_key_of key_start key_length field_type field_start field_length
    key-there h =
        let w = field-byte d s.wide-types s.wide-fields in
        let f : ℕ = suc h.place in
        let a : field_byte cat (field f) 0 ≡ suc i = w h.place 0 h.there (omega arith) ∙ h.type-of in
        let b : field_byte cat (field f) 1 ≡ type_byte cat (code (suc i)) 3 =
        w h.place 1 h.there (omega arith) ∙ h.start_of ∙ sym (type-says 3 (omega arith)) in
        let c : field_byte cat (field f) 2 ≡ type_byte cat (code (suc i)) 4 =
        w h.place 2 h.there (omega arith) ∙ h.long_of ∙ sym (type-says 4 (omega arith)) in
        first-there (is_key_of cat (suc i)) (λ g. eqb (field_type cat (field g)).0 (suc i)) 1 (fields cat) f (omega arith) (omega arith)
        (omega (arith, h.there, fields-are d)) (eq-eqb (field_byte cat (field f) 0) (suc i) a)
        (two-on (eqb (field_byte cat (field f) 1) (type_byte cat (code (suc i)) 3)) (eqb (field_byte cat (field f) 2) (type_byte cat (code (suc i)) 4))
        (eq-eqb _ _ b) (eq-eqb _ _ c))

    key-listed : (eqb (key_kind cat (code (suc i))) 0 || ltb 0 (key_field cat (suc i))) ≡ true
    unfolding key_kind
    key-listed = elim (is (eqb (type_byte cat (code (suc i)) 2) 0)) [
      | on h ↦ rw h
      | off h ↦
          let m : 0 < byte entry 2 = elim (side 0 (byte entry 2)) [
            | inside g ↦ g
            | outside g ↦ absurd (eqb-false (type_byte cat (code (suc i)) 2) 0 h (type-says 2 (omega arith) ∙ omega arith))
          ] in
          rw (h, lt-ltb 0 (key_field cat (suc i)) (key-there (s.keyed i l m)))
    ]

  listed : (k : ℕ) → 1 ≤ k → k < 1 + types cat → (eqb (key_kind cat (code k)) 0 || ltb 0 (key_field cat k)) ≡ true
  listed zero a b = absurd (omega arith)
  listed (suc i) a b = key-listed i (omega (arith, types_are d))

  pub keys-listed : keys_listed cat ≡ true
  unfolding keys_listed
  keys-listed = every-range (λ k. eqb (key_kind cat (code k)) 0 || ltb 0 (key_field cat k)) 1 (types cat) listed

  -- the law
  pub could-give : could_give cat names ≡ true
  unfolding could_give
  could-give =
      rw (could_give, three-on (good_catalogue cat) (is_plain cat) (good_names cat names) catalogue-good catalogue-plain names-good)
      (three-on (differ cat names) (ascending cat) (keys_listed cat) names-differ fields-ascend keys-listed)
