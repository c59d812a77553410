-- The draft that an array keeps, after bytes were written: what each write makes of its rows. Assumes nothing.
use mathlib.Core.Path.{◌≡◌, refl, ap, sym, ◌∙◌}
use mathlib.Core.Bool.{true, false}
use mathlib.Core.List.{List, [], ◌∷◌, ◌++◌}
use Prim.Native.Nat.{ℕ, zero, suc, ◌+◌, ◌*◌, ◌<◌, ◌≤◌}
use native.Mathlib.Omega.{arith}
use lib.ListN.{length, take, drop}
use lib.Seq.{sets, length-sets, take-take}
use borrow.Author.Tests.{ne_eqb}
use Rattle.rules.specs.Block.{Bytes, byte, part}
use Rattle.rules.specs.Catalogue.{types, fields}
use Rattle.statements.specs.Draft.{Draft, rows, with_key, with_type, with_field, begun}
use Rattle.statements.proofs.Rows.{Alike, rows_last, rows-length, part_length, part-alike, rows_alike, part_then}
use Rattle.dbd_draft.specs.Kept.{draft_of}
use Rattle.dbd_draft.proofs.Writes.{made, kept-before, kept-behind}

-- the key's bytes: its kind, start and length, and three zeros
abbrev pub key_bytes : ℕ → ℕ → ℕ → Bytes
key_bytes kind start long = kind ∷ start ∷ long ∷ 0 ∷ 0 ∷ 0 ∷ []

drafts : (a x : Bytes) (b y c z d v e w : List Bytes) → a ≡ x → b ≡ y → c ≡ z → d ≡ v → e ≡ w
    → ◌≡◌ {A = Draft} (record { base = a; types = b; fields = c; segment_names = d; field_names = e })
    (record { base = x; types = y; fields = z; segment_names = v; field_names = w })
drafts a x b y c z d v e w i j k l m = rw (i, j, k, l, m)

-- how many there are
pub types_are : (b : Bytes) → length (draft_of b).types ≡ types b
unfolding draft_of
types_are b = rows-length 8 b 8 (types b)

pub fields-are : (b : Bytes) → length (draft_of b).fields ≡ fields b
unfolding draft_of
fields-are b = rows-length 4 b 264 (fields b)

-- whether there was a DBD
pub begun-not : (b : Bytes) → byte b 520 ≡ 0 → begun (draft_of b) ≡ false
unfolding draft_of begun
begun-not b h = rw h

pub begun-so : (b : Bytes) → length b ≡ 1296 → (byte b 520 ≡ 0 → ⊥) → begun (draft_of b) ≡ true
unfolding draft_of begun
begun-so b m h = rw (ne_eqb (byte b 520) 0 h, part_length b 520 8 (omega arith))

module _ (b c : Bytes) (m : length b ≡ 1296) (n : length c ≡ 1296) where
  rows-kept : (w i k j : ℕ) → j ≡ k → i + w * k ≤ 1296 → Alike c b i (i + w * k) → rows w c i j ≡ rows w b i k
  rows-kept w i k j e h s = rw e (rows_alike w c b i k (omega arith) (omega arith) s)

  rows_more : (w i k j : ℕ) (e : Bytes) → j ≡ suc k → i + w * k ≤ 1296 → Alike c b i (i + w * k) → part c (i + w * k) w ≡ e
      → rows w c i j ≡ rows w b i k ++ (e ∷ [])
  rows_more w i k j e z h s p = rw z (rows_last w c i k ∙ rw (rows_alike w c b i k (omega arith) (omega arith) s, p))

  base_kept : Alike c b 520 528 → (draft_of c).base ≡ (draft_of b).base
  unfolding draft_of
  base_kept s =
      let p : part c 520 8 ≡ part b 520 8 = part-alike c b 520 8 (omega arith) (omega arith) s in
      rw (s 520 (omega arith) (omega arith), p)

  module _ (few : types b ≤ 32) (few_fields : fields b ≤ 64) where
    -- the data base's name
    pub based : types c ≡ types b → fields c ≡ fields b → Alike c b 8 520 → Alike c b 528 1296 → (name : Bytes) → part c 520 8 ≡ name → (byte c 520 ≡ 0 → ⊥)
        → draft_of c ≡ record {
          base = name;
          types = (draft_of b).types;
          fields = (draft_of b).fields;
          segment_names = (draft_of b).segment_names;
          field_names = (draft_of
              b).field_names;
        }
    unfolding draft_of
    based t f s r name e h =
        drafts _ _ _ _ _ _ _ _ _ _ (rw (ne_eqb (byte c 520) 0 h, e))
        (rows-kept 8 8 (types b) (types c) t (omega arith) (λ j l k. s j (omega arith) (omega arith)))
        (rows-kept 4 264 (fields b) (fields c) f (omega arith) (λ j l k. s j (omega arith) (omega arith)))
        (rows-kept 8 528 (types b) (types c) t (omega arith) (λ j l k. r j (omega arith) (omega arith)))
        (rows-kept 8 784 (fields b) (fields c) f (omega arith) (λ j l k. r j (omega arith) (omega arith)))

    -- one type more
    pub typed : types b < 32 → types c ≡ suc (types b) → fields c ≡ fields b → Alike c b 8 (8 + 8 * types b) → Alike c b 264 (528 + 8 * types b)
        → Alike c b 784 1296
        → (name : Bytes) (above long : ℕ) → part c (8 + 8 * types b) 8 ≡ above ∷ long ∷ 0 ∷ 0 ∷ 0 ∷ 0 ∷ 0 ∷ 0 ∷ [] → part c (528 + 8 * types b) 8 ≡ name
        → draft_of c ≡ with_type (draft_of b) name above long
    unfolding draft_of with_type
    typed o t f s r q name above long e g =
        drafts _ _ _ _ _ _ _ _ _ _ (base_kept (λ j l k. r j (omega arith) (omega arith)))
        (rows_more 8 8 (types b) (types c) (above ∷ long ∷ 0 ∷ 0 ∷ 0 ∷ 0 ∷ 0 ∷ 0 ∷ []) t (omega arith) s e)
        (rows-kept 4 264 (fields b) (fields c) f (omega arith) (λ j l k. r j (omega arith) (omega arith)))
        (rows_more 8 528 (types b) (types c) name t (omega arith) (λ j l k. r j (omega arith) (omega arith)) g)
        (rows-kept 8 784 (fields b) (fields c) f (omega arith) (λ j l k. q j (omega arith) (omega arith)))

    -- one field more
    pub fielded : fields b < 64 → types c ≡ types b → fields c ≡ suc (fields b) → Alike c b 8 (264 + 4 * fields b) → Alike c b 520 (784 + 8 * fields b)
        → (name : Bytes) (long start : ℕ) → part c (264 + 4 * fields b) 4 ≡ types b ∷ start ∷ long ∷ 0 ∷ [] → part c (784 + 8 * fields b) 8 ≡ name
        → draft_of c ≡ with_field (draft_of b) name 0 long start
    unfolding draft_of with_field
    fielded o t f s r name long start e g =
        let z : length (rows 8 b 8 (types b)) ≡ types b = rows-length 8 b 8 (types b) in
        drafts _ _ _ _ _ _ _ _ _ _ (base_kept (λ j l k. r j (omega arith) (omega arith)))
        (rows-kept 8 8 (types b) (types c) t (omega arith) (λ j l k. s j (omega arith) (omega arith)))
        (rows_more 4 264 (fields b) (fields c) (length (rows 8 b 8 (types b)) ∷ start ∷ long ∷ 0 ∷ []) f (omega arith)
        (λ j l k. s j (omega arith) (omega arith)) (rw z e))
        (rows-kept 8 528 (types b) (types c) t (omega arith) (λ j l k. r j (omega arith) (omega arith)))
        (rows_more 8 784 (fields b) (fields c) name f (omega arith) (λ j l k. r j (omega arith) (omega arith)) g)

-- the last entry with its key
with-last : (kind start long : ℕ) (xs : List Bytes) (e : Bytes)
    → with_key kind start long (xs ++ (e ∷ [])) ≡ xs ++ ((take 2 e ++ key_bytes kind start long) ∷ [])
unfolding with_key
with-last kind start long [] e = refl
with-last kind start long (x ∷ []) e = refl
with-last kind start long (x ∷ y ∷ xs) e = ap (◌∷◌ x) (with-last kind start long (y ∷ xs) e)

pub with-length : (kind start long : ℕ) (xs : List Bytes) → length (with_key kind start long xs) ≡ length xs
unfolding with_key
with-length kind start long [] = refl
with-length kind start long (e ∷ []) = refl
with-length kind start long (e ∷ x ∷ xs) = ap suc (with-length kind start long (x ∷ xs))

key-rows : (b : Bytes) (kind start long k : ℕ) → 16 + 8 * k ≤ length b
    → rows 8 (sets b (8 * suc k + 2) (key_bytes kind start long)) 8 (suc k) ≡ with_key kind start long (rows 8 b 8 (suc k))
key-rows b kind start long k h =
    let c = sets b (8 * suc k + 2) (key_bytes kind start long) in
    let z : 8 * suc k + 2 ≡ 8 + 8 * k + 2 = omega arith in
    let n : length c ≡ length b = length-sets b (8 * suc k + 2) (key_bytes kind start long) in
    let s : rows 8 c 8 k ≡ rows 8 b 8 k = rows_alike 8 c b 8 k (omega arith) (omega arith)
    (λ j l m. kept-before (key_bytes kind start long) b (8 * suc k + 2) j (omega arith)) in
    let p : part c (8 + 8 * k) 2 ≡ part b (8 + 8 * k) 2 =
    part-alike c b (8 + 8 * k) 2 (omega arith) (omega arith) (λ j l m. kept-before (key_bytes kind start long) b (8 * suc k + 2) j (omega arith)) in
    let q : part c (8 + 8 * k + 2) 6 ≡ key_bytes kind start long =
    ap (λ (i : ℕ). part c i 6) (sym z) ∙ made b (8 * suc k + 2) (key_bytes kind start long) (omega arith) in
    let e : part c (8 + 8 * k) 8 ≡ take 2 (part b (8 + 8 * k) 8) ++ key_bytes kind start long =
    sym (part_then c (8 + 8 * k) 2 6) ∙ rw (p, q) (ap (λ (t : Bytes). t ++ key_bytes kind start long) (sym (take-take 2 8 (drop (8 + 8 * k) b) (omega arith))))
    in
    rows_last 8 c 8 k ∙ rw (s, e) (sym (with-last kind start long (rows 8 b 8 k) (part b (8 + 8 * k) 8)) ∙ ap (with_key kind start long)
    (sym (rows_last 8 b 8 k)))

key-made : (b : Bytes) (kind start long t : ℕ) → 0 < t → 8 + 8 * t ≤ length b
    → rows 8 (sets b (8 * t + 2) (key_bytes kind start long)) 8 t ≡ with_key kind start long (rows 8 b 8 t)
key-made b kind start long zero o h = absurd (omega arith)
key-made b kind start long (suc k) o h = key-rows b kind start long k (omega arith)

-- the key of the last type
pub keyed : (b : Bytes) (kind start long : ℕ) → length b ≡ 1296 → 0 < types b → types b ≤ 32 → fields b ≤ 64
    → draft_of (sets b (8 * types b + 2) (key_bytes kind start long))
    ≡ record {
      base = (draft_of b).base;
      types = with_key kind start long
          (draft_of b).types;
      fields = (draft_of b).fields;
      segment_names = (draft_of b).segment_names;
      field_names = (draft_of b).field_names;
    }
unfolding draft_of types fields
keyed b kind start long m o few few_fields =
    let c = sets b (8 * types b + 2) (key_bytes kind start long) in
    let n : length c ≡ 1296 = length-sets b (8 * types b + 2) (key_bytes kind start long) ∙ m in
    let t : types c ≡ types b = kept-before (key_bytes kind start long) b (8 * types b + 2) 5 (omega arith) in
    let f : fields c ≡ fields b = kept-before (key_bytes kind start long) b (8 * types b + 2) 6 (omega arith) in
    let s : Alike c b 264 1296 = λ j l k. kept-behind (key_bytes kind start long) b (8 * types b + 2) j (omega arith) in
    drafts _ _ _ _ _ _ _ _ _ _ (base_kept b c m n (λ j l k. s j (omega arith) (omega arith)))
    (ap (rows 8 c 8) t ∙ key-made b kind start long (types b) o (omega arith))
    (rows-kept b c m n 4 264 (fields b) (fields c) f (omega arith) (λ j l k. s j (omega arith) (omega arith)))
    (rows-kept b c m n 8 528 (types b) (types c) t (omega arith) (λ j l k. s j (omega arith) (omega arith)))
    (rows-kept b c m n 8 784 (fields b) (fields c) f (omega arith) (λ j l k. s j (omega arith) (omega arith)))
