-- FIELD as the writer has it (R77, R78, R81): its name is new in its type, SEQ comes once, at the first field with the key's bytes. Assumes nothing.
use mathlib.Core.Path.{◌≡◌, refl, ap, sym, ◌∙◌}
use mathlib.Core.Bool.{Bool, true, false, ◌&&◌}
use mathlib.Core.List.{List, [], ◌∷◌, ◌++◌}
use Prim.Native.Nat.{ℕ, zero, suc, ◌+◌, ◌-◌, ◌*◌, ◌<◌, ◌≤◌}
use native.Mathlib.Omega.{arith}
use lib.Dec.{ltb, eqb}
use borrow.Author.Tests.{eqb-true, eqb-false, le-leb, lt-leb, ne_eqb}
use lib.ListN.{length, take}
use Rattle.terms.specs.Choice.{pick}
use Rattle.terms.specs.Names.{code, field as field_of}
use Rattle.forest.specs.Good.{on, off, is}
use Rattle.forest.specs.Forest.{inside, outside, side}
use Rattle.forest.specs.Numbers.{range}
use Rattle.rules.specs.Block.{Bytes, byte, part}
use Rattle.rules.specs.Catalogue.{types, fields, type_byte, length_of, key_kind, key_start, key_length, field_byte, field_type, field_start, field_length, good_field}
use Rattle.rules.proofs.Joined.{two}
use Rattle.rules.proofs.Entries.{header-facts, type-facts, field-facts}
use Rattle.statements.specs.Words.{filled, trimmed}
use Rattle.statements.specs.Draft.{Draft, catalogue_of, rows, has, own_names, with_key, with_field, goes, ruled_field, is_keyed, taken}
use Rattle.statements.specs.Dbd.{name_at, good_name, distinct, first_of, those, field_name, own_fields, is_key_of, key_field, field_statement}
use Rattle.statements.proofs.Written.{Good}
use Rattle.statements.proofs.Named.{name-trimmed, filled-trimmed}
use Rattle.statements.proofs.Rows.{rows-length, rows_last}
use Rattle.dbd_laws.proofs.AgainRows.{rows_split, own-differs}
use Rattle.dbd_laws.proofs.AgainGood.{field-again}
use Rattle.dbd_laws.proofs.AgainBlock.{part-four, part-byte, within, within-types, block-types, block-entry, block-field}
use Rattle.dbd_laws.proofs.AgainFacts.{Facts}
use Rattle.dbd_laws.proofs.AgainTaken.{taken-field, ruled-field, and_left, and_right, opened, keyed, entry_at, entry-long, entry_length, types-size}

-- numbers that pass a test
pub those-on : (p : ℕ → Bool) (i : ℕ) (is : List ℕ) → p i ≡ true → those p (i ∷ is) ≡ i ∷ those p is
unfolding those
those-on p i is h = rw (those, h)

pub those-off : (p : ℕ → Bool) (i : ℕ) (is : List ℕ) → p i ≡ false → those p (i ∷ is) ≡ those p is
unfolding those
those-off p i is h = rw (those, h)

first_on : (q : ℕ → Bool) (i : ℕ) (is : List ℕ) → q i ≡ true → first_of q (i ∷ is) ≡ i
unfolding first_of
first_on q i is h = rw (first_of, h)

first_off : (q : ℕ → Bool) (i : ℕ) (is : List ℕ) → q i ≡ false → first_of q (i ∷ is) ≡ first_of q is
unfolding first_of
first_off q i is h = rw (first_of, h)

-- the first one, where there is one, passes both tests
first-those : (p q : ℕ → Bool) (i r x : ℕ) → first_of q (those p (range i r)) ≡ x → 0 < x → (p x ≡ true) × (q x ≡ true) × (i ≤ x) × (x < i + r)
unfolding first_of those
first-those p q i zero x e l = absurd (omega arith)
first-those p q i (suc r) x e l = elim (is (p i)) [
  | on h ↦ elim (is (q i)) [
    | on g ↦
        let z : i ≡ x = sym (ap (first_of q) (those-on p i (range (suc i) r) h) ∙ first_on q i (those p (range (suc i) r)) g) ∙ e in
        (rw z at h, rw z at g, omega arith, omega arith)
    | off g ↦
        let w = first-those p q (suc i) r x (sym (ap (first_of q) (those-on p i (range (suc i) r) h) ∙ first_off q i (those p (range (suc i) r)) g) ∙ e) l in
        (w.0, w.1, omega (arith, w.2), omega (arith, w.3))
  ]
  | off h ↦
      let w = first-those p q (suc i) r x (sym (ap (first_of q) (those-off p i (range (suc i) r) h)) ∙ e) l in
      (w.0, w.1, omega (arith, w.2), omega (arith, w.3))
]

-- the key goes to the last entry
key-last : (kind start long : ℕ) (es : List Bytes) (e : Bytes)
    → with_key kind start long (es ++ (e ∷ [])) ≡ es ++ ((take 2 e ++ (kind ∷ start ∷ long ∷ 0 ∷ 0 ∷ 0 ∷ [])) ∷ [])
unfolding with_key
key-last kind start long [] e = refl
key-last kind start long (x ∷ []) e = refl
key-last kind start long (x ∷ y ∷ es) e = ap (◌∷◌ x) (key-last kind start long (y ∷ es) e)

-- a FIELD without SEQ, and one with it
with_none : (d : Draft) (w : Bytes) (kind l s : ℕ) → kind ≡ 0 → with_field d w kind l s ≡ record {
  base = d.base;
  types = d.types;
  fields = d.fields ++ ((length d.types ∷ s ∷ l ∷ 0 ∷ []) ∷ []);
  segment_names = d.segment_names;
  field_names = d.field_names ++ (w ∷ []);
}
unfolding with_field
with_none d w kind l s h = rw (with_field, h)

with-seq : (d : Draft) (w : Bytes) (kind l s : ℕ) → eqb kind 0 ≡ false → with_field d w kind l s ≡ record {
  base = d.base;
  types = with_key kind s l d.types;
  fields = d.fields ++ ((length d.types ∷ s ∷ l ∷ 0 ∷ []) ∷ []);
  segment_names = d.segment_names;
  field_names = d.field_names ++ (w ∷ []);
}
unfolding with_field
with-seq d w kind l s h = rw (with_field, h)

module _ (c n : Bytes) where
  abbrev pub type_of : ℕ → ℕ
  type_of f = (field_type c (field_of f)).0

  -- the kind that the FIELD of field m + 1 shows in type k + 1
  abbrev kind_at : ℕ → ℕ → ℕ
  kind_at k m = pick (eqb (suc m) (key_field c (suc k))) (key_kind c (code (suc k))) 0

  pub key-own : (k : ℕ) → 0 < key_field c k → (type_of (key_field c k) ≡ k) × (is_key_of c k (key_field c k) ≡ true) × (1 ≤ key_field c k) × (key_field c k ≤ fields c)
  unfolding key_field own_fields
  key-own k l =
      let w = first-those (λ f. eqb (field_type c (field_of f)).0 k) (is_key_of c k) 1 (fields c) (key_field c k) refl l in
      (eqb-true (field_type c (field_of (key_field c k))).0 k w.0, w.1, w.2, omega (arith, w.3))

  key-bytes : (k f : ℕ) → is_key_of c k f ≡ true → (field_start c (field_of f) ≡ key_start c (code k)) × (field_length c (field_of f) ≡ key_length c (code k))
  unfolding is_key_of
  key-bytes k f e =
      let p = two _ _ e in
      (eqb-true (field_start c (field_of f)) (key_start c (code k)) p.0, eqb-true (field_length c (field_of f)) (key_length c (code k)) p.1)

  entry-opened : (k m : ℕ) → m < key_field c (suc k) → entry_at c n k m ≡ opened c n k
  entry-opened k m l = rw (lt-leb (key_field c (suc k)) m l)

  entry-keyed : (k m : ℕ) → key_field c (suc k) ≤ m → entry_at c n k m ≡ keyed c n k
  entry-keyed k m l = rw (le-leb (key_field c (suc k)) m l)

  module _ (facts : Facts c n) where
    -- a type without key is the same before and behind
    keyed-opened : (k : ℕ) → k < types c → key_kind c (code (suc k)) ≡ 0 → keyed c n k ≡ opened c n k
    keyed-opened k l z =
        let p = (type-facts c facts.good (code (suc k)) (omega arith) (omega arith)).no_key z in
        rw (z, p.0, p.1)

    pub entry-begins : (k m : ℕ) → k < types c → ((f : ℕ) → 1 ≤ f → f ≤ m → type_of f ≤ k) → entry_at c n k m ≡ opened c n k
    entry-begins k m l h = elim (side m (key_field c (suc k))) [
      | inside a ↦ entry-opened k m a
      | outside a ↦ entry-keyed k m a ∙ elim (is (eqb (key_kind c (code (suc k))) 0)) [
        | on z ↦ keyed-opened k l (eqb-true (key_kind c (code (suc k))) 0 z)
        | off z ↦ absurd (
            let b : 0 < key_field c (suc k) = facts.listed (suc k) (omega arith) (omega arith) (eqb-false (key_kind c (code (suc k))) 0 z) in
            let o = key-own (suc k) b in
            let q : type_of (key_field c (suc k)) ≤ k = h (key_field c (suc k)) (omega arith) a in
            omega (arith, o.0))
      ]
    ]

    pub entry-ends : (k m : ℕ) → k < types c → ((f : ℕ) → m < f → f ≤ fields c → suc k < type_of f) → entry_at c n k m ≡ keyed c n k
    entry-ends k m l h = elim (side m (key_field c (suc k))) [
      | inside a ↦ entry-opened k m a ∙ elim (is (eqb (key_kind c (code (suc k))) 0)) [
        | on z ↦ sym (keyed-opened k l (eqb-true (key_kind c (code (suc k))) 0 z))
        | off z ↦ absurd (
            let b : 0 < key_field c (suc k) = facts.listed (suc k) (omega arith) (omega arith) (eqb-false (key_kind c (code (suc k))) 0 z) in
            let o = key-own (suc k) b in
            let q : suc k < type_of (key_field c (suc k)) = h (key_field c (suc k)) a o.3 in
            omega (arith, o.0))
      ]
      | outside a ↦ entry-keyed k m a
    ]

    -- what the FIELD of field m + 1 does to the entry of type k + 1: nothing, or the key
    data Shown (k m : ℕ) : Type 0 where
      none : kind_at k m ≡ 0 → entry_at c n k (suc m) ≡ entry_at c n k m → Shown k m
      seq : suc m ≡ key_field c (suc k) → kind_at k m ≡ key_kind c (code (suc k)) → eqb (kind_at k m) 0 ≡ false → entry_at c n k m ≡ opened c n k
          → entry_at c n k (suc m) ≡ keyed c n k → Shown k m

    shown : (k m : ℕ) → k < types c → Shown k m
    shown k m l = elim (is (eqb (suc m) (key_field c (suc k)))) [
      | on h ↦
          let z : suc m ≡ key_field c (suc k) = eqb-true (suc m) (key_field c (suc k)) h in
          let a : kind_at k m ≡ key_kind c (code (suc k)) = rw h in
          let b : entry_at c n k m ≡ opened c n k = entry-opened k m (omega arith) in
          let d : entry_at c n k (suc m) ≡ keyed c n k = entry-keyed k (suc m) (omega arith) in
          elim (is (eqb (key_kind c (code (suc k))) 0)) [
            | on q ↦ (let y : key_kind c (code (suc k)) ≡ 0 = eqb-true (key_kind c (code (suc k))) 0 q in none (a ∙ y) (d ∙ keyed-opened k l y ∙ sym b))
            | off q ↦ seq z a (ap (λ (x : ℕ). eqb x 0) a ∙ q) b d
          ]
      | off h ↦ none (rw h) (elim (side m (key_field c (suc k))) [
        | inside a ↦ (let z : suc m ≡ key_field c (suc k) → ⊥ = eqb-false (suc m) (key_field c (suc k)) h in
            entry-opened k (suc m) (omega arith) ∙ sym (entry-opened k m a))
        | outside a ↦ entry-keyed k (suc m) (omega arith) ∙ sym (entry-keyed k m a)
      ])
    ]

    name-at : (m : ℕ) → part n (16 + 8 * types c + 8 * m) 8 ≡ field_name c n (suc m)
    unfolding field_name name_at
    name-at m = let z : 16 + 8 * types c + 8 * m ≡ 8 + 8 * (types c + suc m) = omega arith in ap (λ (x : ℕ). part n x 8) z

    name-good : (m : ℕ) → m < fields c → good_name (field_name c n (suc m)) ≡ true
    unfolding field_name
    name-good m l = facts.name (types c + suc m) (omega arith)

    fields-size : (m : ℕ) → m < fields c → 8 + 8 * types c + 4 * m + 4 ≤ length c
    fields-size m l = let h = header-facts c facts.good in omega arith

    field_at : (m j : ℕ) → byte c (8 + 8 * types c + 4 * m + j) ≡ field_byte c (field_of (suc m)) j
    unfolding field_byte
    field_at m j = let z : 8 + 8 * types c + 4 * m + j ≡ 4 + 8 * types c + 4 * suc m + j = omega arith in ap (byte c) z

    field-entry : (k m : ℕ) → m < fields c → type_of (suc m) ≡ suc k
        → part c (8 + 8 * types c + 4 * m) 4 ≡ suc k ∷ field_start c (field_of (suc m)) ∷ field_length c (field_of (suc m)) ∷ 0 ∷ []
    unfolding field_type field_start field_length
    field-entry k m l t =
        part-four c (8 + 8 * types c + 4 * m) (fields-size m l)
        ∙ rw (field_at m 0, field_at m 1, field_at m 2, field_at m 3, t, facts.field-zero (suc m) (omega arith) (omega arith))

    field-new : (k m : ℕ) → k < types c → m < fields c → type_of (suc m) ≡ suc k
        → has (field_name c n (suc m)) (own_names (suc k) (rows 4 c (8 + 8 * types c) m) (rows 8 n (16 + 8 * types c) m)) ≡ false
    unfolding field_type
    field-new k m a b t =
        let i : ℕ = 8 + 8 * types c in
        let j : ℕ = 16 + 8 * types c in
        let r : ℕ = fields c - suc m in
        let z : fields c ≡ m + suc (fields c - suc m) = omega arith in
        let p : rows 4 c (8 + 8 * types c) (fields c) ≡ rows 4 c i m ++ (part c (i + 4 * m) 4 ∷ rows 4 c (i + 4 * m + 4) r) =
        ap (rows 4 c i) z ∙ rows_split 4 c i m r in
        let q : rows 8 n (16 + 8 * types c) (fields c) ≡ rows 8 n j m ++ (part n (j + 8 * m) 8 ∷ rows 8 n (j + 8 * m + 8) r) =
        ap (rows 8 n j) z ∙ rows_split 8 n j m r in
        let f : byte (part c (i + 4 * m) 4) 0 ≡ suc k = part-byte c (i + 4 * m) 4 0 (omega arith) ∙ field_at m 0 ∙ t in
        rw (← name-at m)
        (own-differs (suc k) (rows 4 c i m) (part c (i + 4 * m) 4) (rows 4 c (i + 4 * m + 4) r)
        (rows 8 n j m) (part n (j + 8 * m) 8) (rows 8 n (j + 8 * m + 8) r)
        (rows-length 4 c i m ∙ sym (rows-length 8 n j m)) f
        (sym (ap (λ (x : List Bytes). distinct (own_names (suc k) x (rows 8 n j (fields c)))) p
        ∙ ap (λ (x : List Bytes). distinct (own_names (suc k) (rows 4 c i m ++ (part c (i + 4 * m) 4 ∷ rows 4 c (i + 4 * m + 4) r)) x)) q)
        ∙ facts.fields-differ (suc k) (omega arith) (omega arith)))

    -- the draft with one field more
    draft-more : (k m : ℕ) (ts : List Bytes) (e w : Bytes) → m < fields c → type_of (suc m) ≡ suc k → ts ≡ rows 8 c 8 k ++ (e ∷ []) → w ≡ field_name c n (suc m)
        → ◌≡◌ {A = Draft} (record {
          base = name_at n 0;
          types = ts;
          fields = rows 4 c (8 + 8 * types c) m ++ ((suc k ∷ field_start c (field_of (suc m)) ∷ field_length c (field_of (suc m)) ∷ 0 ∷ []) ∷ []);
          segment_names = rows 8 n 16 (suc k);
          field_names = rows 8 n (16 + 8 * types c) m ++ (w ∷ []);
        }) (within c n k e (suc m))
    draft-more k m ts e w l t a b =
        rw (a, b, rows_last 4 c (8 + 8 * types c) m, rows_last 8 n (16 + 8 * types c) m, field-entry k m l t, name-at m)

    with-field : (k m : ℕ) (w : Bytes) → k < types c → m < fields c → type_of (suc m) ≡ suc k → w ≡ field_name c n (suc m)
        → with_field (within c n k (entry_at c n k m) m) w (kind_at k m) (field_length c (field_of (suc m))) (field_start c (field_of (suc m)))
        ≡ within c n k (entry_at c n k (suc m)) (suc m)
    with-field k m w l h t e =
        let d : Draft = within c n k (entry_at c n k m) m in
        let b : ℕ = field_start c (field_of (suc m)) in
        let v : ℕ = field_length c (field_of (suc m)) in
        let ts : List Bytes = rows 8 c 8 k ++ (entry_at c n k m ∷ []) in
        let u : length (rows 8 c 8 k ++ (entry_at c n k m ∷ [])) ≡ suc k = within-types c n k (entry_at c n k m) m in
        elim (shown k m l) [
          | none z s ↦ with_none d w (kind_at k m) v b z ∙ rw u (draft-more k m ts (entry_at c n k (suc m)) w h t (rw s) e)
          | seq z a q o s ↦
              let y : key_field c (suc k) ≡ suc m = sym z in
              let x : is_key_of c (suc k) (suc m) ≡ true = rw y at (key-own (suc k) (omega arith)).1 in
              let g = key-bytes (suc k) (suc m) x in
              with-seq d w (kind_at k m) v b q
              ∙ rw u (draft-more k m (with_key (kind_at k m) b v ts) (entry_at c n k (suc m)) w h t
              (key-last (kind_at k m) b v (rows 8 c 8 k) (entry_at c n k m) ∙ rw (o, a, g.0, g.1, s)) e)
        ]

    -- SEQ comes where the type has no key yet
    not-keyed : (k m : ℕ) → k < types c → (ltb 0 (kind_at k m) && is_keyed (within c n k (entry_at c n k m) m)) ≡ false
    unfolding is_keyed key_kind type_byte
    not-keyed k m l = elim (shown k m l) [
      | none z s ↦ and_left (ltb 0 (kind_at k m)) _ (ap (ltb 0) z)
      | seq z a q o s ↦
          let r = types-size c n facts k l in
          let u : length (rows 8 c 8 k ++ (entry_at c n k m ∷ [])) ≡ suc k = within-types c n k (entry_at c n k m) m in
          let b : byte (catalogue_of (within c n k (entry_at c n k m) m)) (8 * suc k + 2) ≡ 0 =
          block-entry c n k (entry_at c n k m) m 2 (omega arith) (rw (entry-long c n k m) (omega arith)) ∙ ap (λ (x : Bytes). byte x 2) o in
          and_right (ltb 0 (kind_at k m)) (is_keyed (within c n k (entry_at c n k m) m))
          (ap (λ (x : ℕ). ltb 0 (byte (catalogue_of (within c n k (entry_at c n k m) m)) (8 * x + 2))) u ∙ ap (ltb 0) b)
    ]

    block_more : (k m : ℕ) → k < types c → m < fields c → type_of (suc m) ≡ suc k
        → good_field (catalogue_of (within c n k (entry_at c n k (suc m)) (suc m))) (suc m) ≡ true
    unfolding field_byte field_type length_of type_byte
    block_more k m l h t =
        let r = types-size c n facts k l in
        let e : Bytes = entry_at c n k (suc m) in
        let b : Bytes = catalogue_of (within c n k (entry_at c n k (suc m)) (suc m)) in
        let v : types b ≡ suc k = block-types c n k (entry_at c n k (suc m)) (suc m) in
        let el : length (entry_at c n k (suc m)) ≡ 8 = entry-long c n k (suc m) in
        field-again b c (suc m)
        (λ j q.
        let y : 4 + 8 * types b + 4 * suc m + j ≡ 8 + 8 * suc k + (4 * m + j) = omega arith in
        let w : 8 + 8 * types c + (4 * m + j) ≡ 4 + 8 * types c + 4 * suc m + j = omega arith in
        ap (byte b) y ∙ block-field c n k (entry_at c n k (suc m)) (suc m) (4 * m + j) (omega arith) el (omega arith) ∙ ap (byte c) w)
        (omega arith)
        (ap (λ (x : ℕ). byte b (8 * x + 1)) t ∙ block-entry c n k (entry_at c n k (suc m)) (suc m) 1 (omega arith) (omega arith) ∙ entry_length c n k (suc m)
        ∙ ap (λ (x : ℕ). byte c (8 * x + 1)) (sym t))
        (facts.field-good (suc m) (omega arith) (omega arith))

    -- R78: the statement is one that a line holds
    pub field-good : (k m : ℕ) → k < types c → m < fields c → Good (field_statement c n (suc k) (suc m))
    unfolding field_statement
    field-good k m l h =
        let p = header-facts c facts.good in
        let f = field-facts c facts.good (field_of (suc m)) (omega arith) (omega arith) in
        let t = type-facts c facts.good (field_type c (field_of (suc m))) f.type-least f.type-most in
        let s = type-facts c facts.good (code (suc k)) (omega arith) (omega arith) in (
          name-trimmed (field_name c n (suc m)) (name-good m h),
          kind-most (eqb (suc m) (key_field c (suc k))) (key_kind c (code (suc k))) s.kind-most,
          omega (arith, f.within, t.long-most),
          omega (arith, f.within, t.long-most),
        )
      where
        kind-most : (b : Bool) (x : ℕ) → x ≤ 2 → pick b x 0 ≤ 2
        kind-most true x l = l
        kind-most false x l = omega arith

    -- R77: one field more
    pub field_step : (k m : ℕ) → k < types c → m < fields c → type_of (suc m) ≡ suc k
        → taken (within c n k (entry_at c n k m) m) (field_statement c n (suc k) (suc m)) ≡ goes (within c n k (entry_at c n k (suc m)) (suc m))
    unfolding field_statement
    field_step k m l h t =
        let p = header-facts c facts.good in
        let d : Draft = within c n k (entry_at c n k m) m in
        let w : Bytes = trimmed (field_name c n (suc m)) in
        let f : filled (trimmed (field_name c n (suc m))) ≡ field_name c n (suc m) = filled-trimmed (field_name c n (suc m)) (name-good m h) in
        let u : length (rows 8 c 8 k ++ (entry_at c n k m ∷ [])) ≡ suc k = within-types c n k (entry_at c n k m) m in
        let g : length (rows 4 c (8 + 8 * types c) (suc m)) ≡ suc m = rows-length 4 c (8 + 8 * types c) (suc m) in
        taken-field d w (kind_at k m) (field_length c (field_of (suc m))) (field_start c (field_of (suc m)))
        (ne_eqb (length (rows 8 c 8 k ++ (entry_at c n k m ∷ []))) 0 (λ z. omega arith)) (not-keyed k m l) (rw (u, f) (field-new k m l h t))
        ∙ ap ruled_field (with-field k m (filled w) l h t f)
        ∙ ruled-field (within c n k (entry_at c n k (suc m)) (suc m)) (omega arith) (rw g (block_more k m l h t))
