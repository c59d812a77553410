-- What holds of every draft that the reader reaches, by its rows, and of the draft before the first line and behind DBD. Assumes nothing.
use mathlib.Core.Path.{◌≡◌, refl, ap, sym, ◌∙◌}
use mathlib.Core.Bool.{true, ◌&&◌}
use mathlib.Core.List.{List, [], ◌∷◌, ◌++◌}
use Prim.Native.Nat.{ℕ, zero, suc, ◌-◌, ◌<◌, ◌≤◌}
use native.Mathlib.Omega.{arith}
use lib.Dec.{leb}
use lib.ListN.{length, get_or, length-append, get_or-append}
use borrow.Author.Tests.{leb-true, le-leb}
use Rattle.terms.specs.Names.{code}
use Rattle.rules.specs.Block.{Bytes, byte}
use Rattle.rules.specs.Catalogue.{type_byte, parent_of, length_of, field_type, field_start, field_length, field_value, is_type}
use Rattle.rules.specs.Catalogue.{good_span, good_value, good_type, good_field}
use Rattle.rules.proofs.Catalogue.{par}
use Rattle.rules.proofs.Joined.{two, three}
use Rattle.statements.specs.Draft.{Draft, blank, catalogue_of, own_names}
use Rattle.statements.specs.Dbd.{good_name, distinct}
use Rattle.statements.proofs.Joined.{All, Wide}
use Rattle.statements.proofs.Frame.{lower-each, good_type-entries}
use Rattle.dbd_laws.proofs.Apart.{distinct_none}
use Rattle.dbd_laws.proofs.Blocks.{T, F, types_are, type-byte, field-byte}

-- a field's entry, by the entries of the types
pub record Fits (ts : List Bytes) (f : Bytes) : Type 0 where
  pub least : 1 ≤ byte f 0
  pub most : byte f 0 ≤ length ts
  pub span : good_span (byte f 1) (byte f 2) (byte (get_or ts (byte f 0 - 1) []) 1) ≡ true
  pub plain : byte f 3 ≡ 0

-- the entries of types whose value type is 0
abbrev pub Plain : List Bytes → Type 0
Plain ts = All (λ e. byte e 7 ≡ 0) ts

-- a field of type k with this start and this length
pub record Listed (fs : List Bytes) (k start long : ℕ) : Type 0 where
  pub place : ℕ
  pub there : place < length fs
  pub type-of : byte (get_or fs place []) 0 ≡ k
  pub start_of : byte (get_or fs place []) 1 ≡ start
  pub long_of : byte (get_or fs place []) 2 ≡ long

pub record Sound (d : Draft) : Type 0 where
  pub based : 0 < length d.base → good_name d.base ≡ true
  pub begins : 0 < length d.types → 0 < length d.base
  pub few-types : length d.types ≤ 32
  pub few-fields : length d.fields ≤ 64
  pub all_named : length d.segment_names ≡ length d.types
  pub each-named : length d.field_names ≡ length d.fields
  pub wide-types : Wide 8 d.types
  pub wide-fields : Wide 4 d.fields
  pub plain-types : Plain d.types
  pub good-segments : All (λ n. good_name n ≡ true) d.segment_names
  pub good-fields : All (λ n. good_name n ≡ true) d.field_names
  pub apart-segments : distinct d.segment_names ≡ true
  pub apart-fields : (k : ℕ) → distinct (own_names k d.fields d.field_names) ≡ true
  pub each-type : (k : ℕ) → 1 ≤ k → k ≤ length d.types → good_type (catalogue_of d) k ≡ true
  pub each-field : All (Fits d.types) d.fields
  pub rising : (i : ℕ) → suc i < length d.fields → byte (get_or d.fields i []) 0 ≤ byte (get_or d.fields (suc i) []) 0
  pub keyed : (i : ℕ) → i < length d.types → 0 < byte (get_or d.types i []) 2
      → Listed d.fields (suc i) (byte (get_or d.types i []) 3) (byte (get_or d.types i []) 4)

-- before the first line
pub sound-blank : Sound blank
unfolding blank own_names
sound-blank = record {
  based = λ l. absurd (omega arith);
  begins = λ l. absurd (omega arith);
  few-types = omega arith;
  few-fields = omega arith;
  all_named = refl;
  each-named = refl;
  wide-types = tt;
  wide-fields = tt;
  plain-types = tt;
  good-segments = tt;
  good-fields = tt;
  apart-segments = distinct_none;
  apart-fields = λ k. distinct_none;
  each-type = λ k a b. absurd (omega arith);
  each-field = tt;
  rising = λ i l. absurd (omega arith);
  keyed = λ i l m. absurd (omega arith);
}

-- the data base's name stands in no entry
pub sound-base : (d : Draft) (n : Bytes) → good_name n ≡ true → 0 < length n → Sound d
    → Sound (record { base = n; types = d.types; fields = d.fields; segment_names = d.segment_names; field_names = d.field_names })
unfolding catalogue_of
sound-base d n g l s = record {
  based = λ m. g;
  begins = λ m. l;
  few-types = s.few-types;
  few-fields = s.few-fields;
  all_named = s.all_named;
  each-named = s.each-named;
  wide-types = s.wide-types;
  wide-fields = s.wide-fields;
  plain-types = s.plain-types;
  good-segments = s.good-segments;
  good-fields = s.good-fields;
  apart-segments = s.apart-segments;
  apart-fields = s.apart-fields;
  each-type = s.each-type;
  each-field = s.each-field;
  rising = s.rising;
  keyed = s.keyed;
}

-- a byte of the entry of type t, by its code
pub type-byte-at : (d : Draft) → Wide 8 d.types → (t j : ℕ) → 1 ≤ t → t ≤ T d → j < 8
    → type_byte (catalogue_of d) (code t) j ≡ byte (get_or d.types (t - 1) []) j
type-byte-at d w zero j a b m = absurd (omega arith)
type-byte-at d w (suc i) j a b m = let z : suc i - 1 ≡ i = omega arith in rw z (type-byte d w i j (omega arith) m)

-- two drafts of which the first entries of types are the same
module _ (d e : Draft) (wd : Wide 8 d.types) (we : Wide 8 e.types) (k : ℕ) (ld : k ≤ T d) (le : k ≤ T e) where
  type-bytes-same : ((i : ℕ) → i < k → get_or d.types i [] ≡ get_or e.types i []) → (u j : ℕ) → 1 ≤ u → u ≤ k → j < 8
      → type_byte (catalogue_of d) (code u) j ≡ type_byte (catalogue_of e) (code u) j
  type-bytes-same same u j a b m =
      type-byte-at d wd u j a (omega arith) m ∙ ap (λ (x : Bytes). byte x j) (same (u - 1) (omega arith)) ∙ sym (type-byte-at e we u j a (omega arith) m)

  pub goes_on : ((i : ℕ) → i < k → get_or d.types i [] ≡ get_or e.types i []) → ((u : ℕ) → 1 ≤ u → u ≤ k → good_type (catalogue_of d) u ≡ true)
      → 1 ≤ k → good_type (catalogue_of e) k ≡ true
  goes_on same g o =
      sym (good_type-entries (catalogue_of d) (catalogue_of e) k (type-bytes-same same) (lower-each (catalogue_of d) (k - 1) (λ u a b. g u a (omega arith))))
      ∙ g k o (omega arith)

  -- the parents are the first bytes
  pub parents-same : ((i : ℕ) → i < k → byte (get_or d.types i []) 0 ≡ byte (get_or e.types i []) 0) → (u : ℕ) → 1 ≤ u → u ≤ k
      → par (catalogue_of d) u ≡ par (catalogue_of e) u
  unfolding parent_of
  parents-same same u a b =
      type-byte-at d wd u 0 a (omega arith) (omega arith) ∙ same (u - 1) (omega arith) ∙ sym (type-byte-at e we u 0 a (omega arith) (omega arith))

-- the entry of field i + 1, as the check of the block has it and as the draft does
module _ (d : Draft) (wide : Wide 8 d.types) (short : Wide 4 d.fields) (i : ℕ) (l : i < F d) where
  abbrev entry : Bytes
  entry = get_or d.fields i []

  judged : good_field (catalogue_of d) (suc i)
      ≡ ((leb 1 (byte entry 0) && leb (byte entry 0) (T d)) && good_span (byte entry 1) (byte entry 2) (type_byte (catalogue_of d) (code (byte entry 0)) 1)
      && good_value (byte entry 3) (byte entry 2))
  unfolding good_field is_type field_type field_start field_length field_value length_of
  judged =
      rw (
        types_are d,
        field-byte d wide short i 0 l (omega arith),
        field-byte d wide short i 1 l (omega arith),
        field-byte d wide short i 2 l (omega arith),
        field-byte d wide short i 3 l (omega arith),
      )

  pub field_fits : byte entry 3 ≡ 0 → good_field (catalogue_of d) (suc i) ≡ true → Fits d.types entry
  field_fits z g =
      let p = three (leb 1 (byte entry 0) && leb (byte entry 0) (T d))
      (good_span (byte entry 1) (byte entry 2) (type_byte (catalogue_of d) (code (byte entry 0)) 1)) (good_value (byte entry 3) (byte entry 2)) (sym judged ∙ g) in
      let q = two _ _ p.0 in
      let a : 1 ≤ byte entry 0 = leb-true 1 (byte entry 0) q.0 in
      let b : byte entry 0 ≤ T d = leb-true (byte entry 0) (T d) q.1 in
      record {
        least = a;
        most = b;
        span = rw (← type-byte-at d wide (byte entry 0) 1 a b (omega arith)) p.1;
        plain = z;
      }

  pub fits-field : Fits d.types entry → good_field (catalogue_of d) (suc i) ≡ true
  fits-field f =
      judged
      ∙ rw (
        type-byte-at d wide (byte entry 0) 1 f.least f.most (omega arith),
        le-leb 1 (byte entry 0) f.least,
        le-leb (byte entry 0) (T d) f.most,
        f.span,
        f.plain,
      )

-- one field more
pub listed_more : (fs : List Bytes) (f : Bytes) (k start long : ℕ) → Listed fs k start long → Listed (fs ++ (f ∷ [])) k start long
listed_more fs f k start long l =
    let e : get_or (fs ++ (f ∷ [])) l.place [] ≡ get_or fs l.place [] = get_or-append fs (f ∷ []) [] l.place l.there in
    record {
      place = l.place;
      there = omega (arith, length-append fs (f ∷ []), l.there);
      type-of = ap (λ (x : Bytes). byte x 0) e ∙ l.type-of;
      start_of = ap (λ (x : Bytes). byte x 1) e ∙ l.start_of;
      long_of = ap (λ (x : Bytes). byte x 2) e ∙ l.long_of;
    }
