-- One field more, with or without a key, keeps a draft sound. Assumes nothing.
use mathlib.Core.Path.{◌≡◌, refl, ap, sym, ◌∙◌}
use mathlib.Core.Bool.{true, false}
use mathlib.Core.List.{List, [], ◌∷◌, ◌++◌}
use Prim.Native.Nat.{ℕ, zero, suc, ◌+◌, ◌-◌, ◌*◌, ◌<◌, ◌≤◌}
use native.Mathlib.Omega.{arith}
use lib.Dec.{eqb}
use lib.ListN.{length, get_or, take, length-append, get_or-append}
use lib.Seq.{get_or-append_seam}
use borrow.Author.Tests.{le-leb, ne_eqb, eqb-true}
use Rattle.terms.specs.declared.TypeCode.{TypeCode}
use Rattle.terms.specs.Names.{code}
use Rattle.forest.specs.Forest.{inside, outside, side}
use Rattle.forest.specs.Good.{on, off, is}
use Rattle.rules.specs.Block.{Bytes, byte, part, zeros}
use Rattle.rules.specs.Catalogue.{type_byte, length_of, key_kind, key_start, key_length, key_value, good_span, good_key, good_type, good_field}
use Rattle.statements.specs.Draft.{Draft, catalogue_of, has, own_names, with_key, with_field}
use Rattle.statements.specs.Dbd.{good_name, distinct}
use Rattle.statements.proofs.Joined.{Wide, all-at, all_of, all_snoc, all-mono}
use Rattle.statements.proofs.Frame.{spare-zeros, lower-each, good_type-keyed}
use Rattle.dbd_laws.proofs.Apart.{distinct_snoc, own-snoc-in, own-snoc-out}
use Rattle.dbd_laws.proofs.Blocks.{T}
use Rattle.dbd_laws.proofs.Sound.{Fits, Plain, Listed, Sound, type-byte-at, goes_on, parents-same, field_fits, listed_more}

-- the entries when the last one gets its key
module _ (kind start long : ℕ) where
  abbrev pub with_key_bytes : Bytes → Bytes
  with_key_bytes e = take 2 e ++ (kind ∷ start ∷ long ∷ 0 ∷ 0 ∷ 0 ∷ [])

  pub key-count : (ts : List Bytes) → length (with_key kind start long ts) ≡ length ts
  unfolding with_key
  key-count [] = refl
  key-count (e ∷ []) = refl
  key-count (e ∷ x ∷ es) = ap suc (key-count (x ∷ es))

  pub key-before : (ts : List Bytes) (i : ℕ) → suc i < length ts → get_or (with_key kind start long ts) i [] ≡ get_or ts i []
  unfolding with_key
  key-before [] i l = absurd (omega arith)
  key-before (e ∷ []) i l = absurd (omega arith)
  key-before (e ∷ x ∷ es) zero l = refl
  key-before (e ∷ x ∷ es) (suc i) l = key-before (x ∷ es) i (omega arith)

  pub key-last : (ts : List Bytes) (i : ℕ) → suc i ≡ length ts → get_or (with_key kind start long ts) i [] ≡ with_key_bytes (get_or ts i [])
  unfolding with_key
  key-last [] i l = absurd (omega arith)
  key-last (e ∷ []) zero l = refl
  key-last (e ∷ []) (suc i) l = absurd (omega arith)
  key-last (e ∷ x ∷ es) zero l = absurd (omega arith)
  key-last (e ∷ x ∷ es) (suc i) l = key-last (x ∷ es) i (omega arith)

  -- what the entry says then
  pub record Keyed (e : Bytes) : Type 0 where
    pub sized : length (with_key_bytes e) ≡ 8
    pub first : byte (with_key_bytes e) 0 ≡ byte e 0
    pub second : byte (with_key_bytes e) 1 ≡ byte e 1
    pub kind-is : byte (with_key_bytes e) 2 ≡ kind
    pub start_is : byte (with_key_bytes e) 3 ≡ start
    pub long-is : byte (with_key_bytes e) 4 ≡ long
    pub fifth : byte (with_key_bytes e) 5 ≡ 0
    pub sixth : byte (with_key_bytes e) 6 ≡ 0
    pub seventh : byte (with_key_bytes e) 7 ≡ 0

  pub key-bytes : (e : Bytes) → length e ≡ 8 → Keyed e
  key-bytes [] l = absurd (omega arith)
  key-bytes (x ∷ []) l = absurd (omega arith)
  key-bytes (x ∷ y ∷ e) l = record {
    sized = refl;
    first = refl;
    second = refl;
    kind-is = refl;
    start_is = refl;
    long-is = refl;
    fifth = refl;
    sixth = refl;
    seventh = refl;
  }

-- fields whose types keep their count and their lengths
fits-as : (ts us : List Bytes) → length us ≡ length ts → ((i : ℕ) → i < length ts → byte (get_or us i []) 1 ≡ byte (get_or ts i []) 1)
    → (f : Bytes) → Fits ts f → Fits us f
fits-as ts us l same f h =
    let e : byte (get_or us (byte f 0 - 1) []) 1 ≡ byte (get_or ts (byte f 0 - 1) []) 1 = same (byte f 0 - 1) (omega (arith, h.least, h.most)) in
    record {
      least = h.least;
      most = omega (arith, l, h.most);
      span = rw e h.span;
      plain = h.plain;
    }

-- one field more, of the last type; us are the entries of the types then
module _ (d : Draft) (s : Sound d) (n : Bytes) (start long : ℕ) (us : List Bytes) where
  abbrev new : Bytes
  new = T d ∷ start ∷ long ∷ 0 ∷ []

  abbrev fs : List Bytes
  fs = d.fields

  abbrev pub next : Draft
  next = record { base = d.base; types = us; fields = fs ++ (new ∷ []); segment_names = d.segment_names; field_names = d.field_names ++ (n ∷ []) }

  count : length (fs ++ (new ∷ [])) ≡ suc (length fs)
  count = omega (arith, length-append fs (new ∷ []))

  last-is : get_or (fs ++ (new ∷ [])) (length fs) [] ≡ new
  last-is = get_or-append_seam fs new [] []

  short : Wide 4 (fs ++ (new ∷ []))
  short = all_snoc (λ x. length x ≡ 4) fs new s.wide-fields refl

  -- the new field is the last of all
  rises : (i : ℕ) → suc i < length (fs ++ (new ∷ [])) → byte (get_or (fs ++ (new ∷ [])) i []) 0 ≤ byte (get_or (fs ++ (new ∷ [])) (suc i) []) 0
  rises i l = elim (side (suc i) (length fs)) [
    | inside h ↦ rw (get_or-append fs (new ∷ []) [] i (omega arith), get_or-append fs (new ∷ []) [] (suc i) h) (s.rising i h)
    | outside h ↦
        let z : suc i ≡ length fs = omega (arith, count) in
        let e : get_or (fs ++ (new ∷ [])) (suc i) [] ≡ new = rw z last-is in
        let f : get_or (fs ++ (new ∷ [])) i [] ≡ get_or fs i [] = get_or-append fs (new ∷ []) [] i (omega arith) in
        rw (e, f) (all-at (Fits d.types) fs s.each-field i [] (omega arith)).most
  ]

  apart : has n (own_names (T d) fs d.field_names) ≡ false → (k : ℕ) → distinct (own_names k (fs ++ (new ∷ [])) (d.field_names ++ (n ∷ []))) ≡ true
  apart fresh k = elim (is (eqb (T d) k)) [
    | on h ↦
        let z : T d ≡ k = eqb-true (T d) k h in
        rw (own-snoc-in k fs d.field_names new n s.each-named h) (distinct_snoc (own_names k fs d.field_names) n (s.apart-fields k) (rw (← z) fresh))
    | off h ↦ rw (own-snoc-out k fs d.field_names new n s.each-named h) (s.apart-fields k)
  ]

  module _ (long-us : length us ≡ T d) (wide : Wide 8 us) (flat : Plain us)
      (same : (i : ℕ) → i < T d → byte (get_or us i []) 1 ≡ byte (get_or d.types i []) 1) where
    -- the new field, as the check of the block has it
    pub new-fits : good_field (catalogue_of next) (length (fs ++ (new ∷ []))) ≡ true → Fits us new
    new-fits g =
        let h : good_field (catalogue_of next) (suc (length fs)) ≡ true = rw count at g in
        let z : byte (get_or (fs ++ (new ∷ [])) (length fs) []) 3 ≡ 0 = ap (λ (x : Bytes). byte x 3) last-is in
        let f : Fits us (get_or (fs ++ (new ∷ [])) (length fs) []) = field_fits next wide short (length fs) (omega (arith, count)) z h in
        rw last-is at f

    sound-next : length (fs ++ (new ∷ [])) ≤ 64 → good_field (catalogue_of next) (length (fs ++ (new ∷ []))) ≡ true → good_name n ≡ true
        → has n (own_names (T d) fs d.field_names) ≡ false
        → ((k : ℕ) → 1 ≤ k → k ≤ length us → good_type (catalogue_of next) k ≡ true)
        → ((i : ℕ) → i < length us → 0 < byte (get_or us i []) 2 → Listed (fs ++ (new ∷ [])) (suc i) (byte (get_or us i []) 3) (byte (get_or us i []) 4))
        → Sound next
    sound-next few good named fresh each keys = record {
      based = s.based;
      begins = λ m. s.begins (omega (arith, long-us));
      few-types = omega (arith, long-us, s.few-types);
      few-fields = few;
      all_named = s.all_named ∙ sym long-us;
      each-named = omega (arith, count, length-append d.field_names (n ∷ []), s.each-named);
      wide-types = wide;
      wide-fields = short;
      plain-types = flat;
      good-segments = s.good-segments;
      good-fields = all_snoc (λ x. good_name x ≡ true) d.field_names n s.good-fields named;
      apart-segments = s.apart-segments;
      apart-fields = apart fresh;
      each-type = each;
      each-field = all_snoc (Fits us) fs new (all-mono (Fits d.types) (Fits us) (fits-as d.types us long-us same) fs s.each-field) (new-fits good);
      rising = rises;
      keyed = keys;
    }

-- a field without a key
module _ (d : Draft) (s : Sound d) (n : Bytes) (start long : ℕ) where
  abbrev plain : Draft
  plain = next d s n start long d.types

  pub sound-plain : length plain.fields ≤ 64 → good_field (catalogue_of plain) (length plain.fields) ≡ true → good_name n ≡ true
      → has n (own_names (T d) d.fields d.field_names) ≡ false → Sound plain
  sound-plain few good named fresh =
      sound-next d s n start long d.types refl s.wide-types s.plain-types (λ i l. refl) few good named fresh
      (λ k a b. goes_on d plain s.wide-types s.wide-types k b b (λ i m. refl) (λ u o m. s.each-type u o (omega arith)) a)
      (λ i l m. listed_more d.fields (T d ∷ start ∷ long ∷ 0 ∷ []) (suc i) _ _ (s.keyed i l m))

key-good : (cat : Bytes) (t : TypeCode) → 0 < key_kind cat t → key_kind cat t ≤ 2 → good_span (key_start cat t) (key_length cat t) (length_of cat t) ≡ true
    → key_value cat t ≡ 0 → good_key cat t ≡ true
unfolding good_key
key-good cat t a b g v = rw (ne_eqb (key_kind cat t) 0 (λ z. omega arith), le-leb (key_kind cat t) 2 b, g, v)

-- a field that is the key of its type
module _ (d : Draft) (s : Sound d) (n : Bytes) (kind start long : ℕ) (some : 0 < T d) (keyed : 0 < kind) (most : kind ≤ 2) where
  abbrev us : List Bytes
  us = with_key kind start long d.types

  abbrev key_draft : Draft
  key_draft = next d s n start long us

  abbrev top : ℕ
  top = T d - 1

  same-before : (i : ℕ) → i < top → get_or us i [] ≡ get_or d.types i []
  same-before i l = key-before kind start long d.types i (omega arith)

  old-wide : (i : ℕ) → i < T d → length (get_or d.types i []) ≡ 8
  old-wide i l = all-at (λ x. length x ≡ 8) d.types s.wide-types i [] l

  facts : Keyed kind start long (get_or d.types top [])
  facts = key-bytes kind start long (get_or d.types top []) (old-wide top (omega arith))

  last_one : get_or us top [] ≡ with_key_bytes kind start long (get_or d.types top [])
  last_one = key-last kind start long d.types top (omega arith)

  -- the first two bytes of each entry stay
  stay-first : (i : ℕ) → i < T d → byte (get_or us i []) 0 ≡ byte (get_or d.types i []) 0
  stay-first i l = elim (side i top) [
    | inside h ↦ ap (λ (x : Bytes). byte x 0) (same-before i h)
    | outside h ↦ (let z : i ≡ top = omega arith in rw z (ap (λ (x : Bytes). byte x 0) last_one ∙ facts.first))
  ]

  stay-second : (i : ℕ) → i < T d → byte (get_or us i []) 1 ≡ byte (get_or d.types i []) 1
  stay-second i l = elim (side i top) [
    | inside h ↦ ap (λ (x : Bytes). byte x 1) (same-before i h)
    | outside h ↦ (let z : i ≡ top = omega arith in rw z (ap (λ (x : Bytes). byte x 1) last_one ∙ facts.second))
  ]

  count-us : length us ≡ T d
  count-us = key-count kind start long d.types

  wide-us : Wide 8 us
  wide-us = all_of (λ x. length x ≡ 8) us [] (λ i l. elim (side i top) [
    | inside h ↦ ap length (same-before i h) ∙ old-wide i (omega arith)
    | outside h ↦ (let z : i ≡ top = omega (arith, count-us) in rw z (ap length last_one ∙ facts.sized))
  ])

  flat-us : Plain us
  flat-us = all_of (λ e. byte e 7 ≡ 0) us [] (λ i l. elim (side i top) [
    | inside h ↦ ap (λ (x : Bytes). byte x 7) (same-before i h) ∙ all-at (λ e. byte e 7 ≡ 0) d.types s.plain-types i [] (omega arith)
    | outside h ↦ (let z : i ≡ top = omega (arith, count-us) in rw z (ap (λ (x : Bytes). byte x 7) last_one ∙ facts.seventh))
  ])

  module _ (fits : Fits us (T d ∷ start ∷ long ∷ 0 ∷ [])) where
    abbrev cat : Bytes
    cat = catalogue_of key_draft

    last_byte : (j : ℕ) → j < 8 → type_byte cat (code (T d)) j ≡ byte (with_key_bytes kind start long (get_or d.types top [])) j
    last_byte j l = type-byte-at key_draft wide-us (T d) j (omega arith) (omega (arith, count-us)) l ∙ ap (λ (x : Bytes). byte x j) last_one

    key-is-good : good_key cat (code (T d)) ≡ true
    unfolding key_kind key_start key_length key_value length_of
    key-is-good =
        let a : type_byte cat (code (T d)) 2 ≡ kind = last_byte 2 (omega arith) ∙ facts.kind-is in
        let b : type_byte cat (code (T d)) 3 ≡ start = last_byte 3 (omega arith) ∙ facts.start_is in
        let e : type_byte cat (code (T d)) 4 ≡ long = last_byte 4 (omega arith) ∙ facts.long-is in
        let f : type_byte cat (code (T d)) 1 ≡ byte (get_or us top []) 1 =
        type-byte-at key_draft wide-us (T d) 1 (omega arith) (omega (arith, count-us)) (omega arith) in
        key-good cat (code (T d)) (omega arith) (omega arith) (rw (b, e, f) fits.span) (last_byte 7 (omega arith) ∙ facts.seventh)

    ends : zeros (part cat (8 * T d + 5) 2) ≡ true
    ends = spare-zeros cat (T d) ∙ rw (last_byte 5 (omega arith) ∙ facts.fifth, last_byte 6 (omega arith) ∙ facts.sixth)

    length-stays : length_of (catalogue_of d) (code (T d)) ≡ length_of cat (code (T d))
    unfolding length_of
    length-stays =
        type-byte-at d s.wide-types (T d) 1 (omega arith) (omega arith) (omega arith) ∙ sym (stay-second top (omega arith))
        ∙ sym (type-byte-at key_draft wide-us (T d) 1 (omega arith) (omega (arith, count-us)) (omega arith))

    last-good : good_type cat (T d) ≡ true
    last-good =
        good_type-keyed (catalogue_of d) cat (T d)
        (parents-same d key_draft s.wide-types wide-us (T d) (omega arith) (omega (arith, count-us)) (λ i l. sym (stay-first i l)))
        (lower-each (catalogue_of d) (T d - 1) (λ u a b. s.each-type u a (omega arith)))
        (s.each-type (T d) (omega arith) (omega arith)) length-stays key-is-good ends

    every-type : (k : ℕ) → 1 ≤ k → k ≤ length us → good_type cat k ≡ true
    every-type k a b = elim (side k (T d)) [
      | inside h ↦ goes_on d key_draft s.wide-types wide-us k (omega arith) b (λ i m. sym (same-before i (omega arith)))
          (λ u o m. s.each-type u o (omega arith)) a
      | outside h ↦ (let z : k ≡ T d = omega (arith, count-us) in rw z last-good)
    ]

  keys : (i : ℕ) → i < length us → 0 < byte (get_or us i []) 2
      → Listed (d.fields ++ ((T d ∷ start ∷ long ∷ 0 ∷ []) ∷ [])) (suc i) (byte (get_or us i []) 3) (byte (get_or us i []) 4)
  keys i l = elim (side i top) [
    | inside h ↦ rw (same-before i h) (λ m. listed_more d.fields (T d ∷ start ∷ long ∷ 0 ∷ []) (suc i) _ _ (s.keyed i (omega arith) m))
    | outside h ↦
        let z : i ≡ top = omega (arith, count-us) in
        let e : get_or us i [] ≡ with_key_bytes kind start long (get_or d.types top []) = rw z last_one in
        let f : get_or (d.fields ++ ((T d ∷ start ∷ long ∷ 0 ∷ []) ∷ [])) (length d.fields) [] ≡ T d ∷ start ∷ long ∷ 0 ∷ []
        = get_or-append_seam d.fields (T d ∷ start ∷ long ∷ 0 ∷ []) [] [] in
        λ m. record {
          place = length d.fields;
          there = omega (arith, length-append d.fields ((T d ∷ start ∷ long ∷ 0 ∷ []) ∷ []));
          type-of = ap (λ (x : Bytes). byte x 0) f ∙ omega arith;
          start_of = ap (λ (x : Bytes). byte x 1) f ∙ sym (ap (λ (x : Bytes). byte x 3) e ∙ facts.start_is);
          long_of = ap (λ (x : Bytes). byte x 2) f ∙ sym (ap (λ (x : Bytes). byte x 4) e ∙ facts.long-is);
        }
  ]

  pub sound-keyed : length key_draft.fields ≤ 64 → good_field (catalogue_of key_draft) (length key_draft.fields) ≡ true → good_name n ≡ true
      → has n (own_names (T d) d.fields d.field_names) ≡ false → Sound key_draft
  sound-keyed few good named fresh =
      sound-next d s n start long us count-us wide-us flat-us stay-second few good named fresh
      (every-type (new-fits d s n start long us count-us wide-us flat-us stay-second good)) keys

-- the law, for the draft that a FIELD makes
field_plain : (d : Draft) (s : Sound d) (n : Bytes) (long start : ℕ) → with_field d n 0 long start ≡ next d s n start long d.types
unfolding with_field
field_plain d s n long start = refl

field-keyed : (d : Draft) (s : Sound d) (n : Bytes) (k long start : ℕ)
    → with_field d n (suc k) long start ≡ next d s n start long (with_key (suc k) start long d.types)
unfolding with_field
field-keyed d s n k long start = rw (with_field, ne_eqb (suc k) 0 (λ z. omega arith))

module _ (d : Draft) (s : Sound d) (n : Bytes) (long start : ℕ) (some : 0 < T d) (named : good_name n ≡ true)
    (fresh : has n (own_names (T d) d.fields d.field_names) ≡ false) where
  pub sound-field : (kind : ℕ) → kind ≤ 2 → length (with_field d n kind long start).fields ≤ 64
      → good_field (catalogue_of (with_field d n kind long start)) (length (with_field d n kind long start).fields) ≡ true → Sound (with_field d n kind long start)
  sound-field zero most = rw (field_plain d s n long start) (λ few good. sound-plain d s n start long few good named fresh)
  sound-field (suc k) most =
      rw (field-keyed d s n k long start) (λ few good. sound-keyed d s n (suc k) start long some (omega arith) most few good named fresh)
