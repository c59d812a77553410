-- The drafts between the writer's statements, and the bytes of their blocks; at the end the block and the list themselves. Assumes nothing.
use mathlib.Core.Path.{◌≡◌, refl, ap, sym, ◌∙◌}
use mathlib.Core.Bool.{true}
use mathlib.Core.List.{[], ◌∷◌, ◌++◌, append_assoc}
use Prim.Native.Nat.{ℕ, suc, ◌+◌, ◌*◌, ◌<◌, ◌≤◌}
use native.Mathlib.Omega.{arith}
use lib.Dec.{eqb}
use borrow.Author.Tests.{eqb-true}
use lib.ListN.{length, take, drop, get_or, length-append, length-drop, take-append-drop, get_or-append}
use lib.Seq.{length-take-le, take_all, drop-drop, take-add, get_or-append-add, get_or-take, get_or-drop}
use Rattle.rules.specs.Block.{Bytes, byte, word, part, marked}
use Rattle.rules.specs.Catalogue.{types, fields}
use Rattle.rules.proofs.Joined.{four}
use Rattle.statements.specs.Draft.{Draft, header, catalogue_of, names_of, rows}
use Rattle.statements.specs.Dbd.{name_at}
use Rattle.statements.proofs.Rows.{rows-length, rows_last, joined-rows}
use Rattle.statements.proofs.Joined.{joined_snoc}

-- bytes one by one
pub eight : (b : Bytes) → 8 ≤ length b
    → take 8 b ≡ byte b 0 ∷ byte b 1 ∷ byte b 2 ∷ byte b 3 ∷ byte b 4 ∷ byte b 5 ∷ byte b 6 ∷ byte b 7 ∷ []
eight [] l = absurd (omega arith)
eight (b0 ∷ []) l = absurd (omega arith)
eight (b0 ∷ b1 ∷ []) l = absurd (omega arith)
eight (b0 ∷ b1 ∷ b2 ∷ []) l = absurd (omega arith)
eight (b0 ∷ b1 ∷ b2 ∷ b3 ∷ []) l = absurd (omega arith)
eight (b0 ∷ b1 ∷ b2 ∷ b3 ∷ b4 ∷ []) l = absurd (omega arith)
eight (b0 ∷ b1 ∷ b2 ∷ b3 ∷ b4 ∷ b5 ∷ []) l = absurd (omega arith)
eight (b0 ∷ b1 ∷ b2 ∷ b3 ∷ b4 ∷ b5 ∷ b6 ∷ []) l = absurd (omega arith)
eight (b0 ∷ b1 ∷ b2 ∷ b3 ∷ b4 ∷ b5 ∷ b6 ∷ b7 ∷ bs) l = refl

pub four-of : (b : Bytes) → 4 ≤ length b → take 4 b ≡ byte b 0 ∷ byte b 1 ∷ byte b 2 ∷ byte b 3 ∷ []
four-of [] l = absurd (omega arith)
four-of (b0 ∷ []) l = absurd (omega arith)
four-of (b0 ∷ b1 ∷ []) l = absurd (omega arith)
four-of (b0 ∷ b1 ∷ b2 ∷ []) l = absurd (omega arith)
four-of (b0 ∷ b1 ∷ b2 ∷ b3 ∷ bs) l = refl

pub part-eight : (b : Bytes) (i : ℕ) → i + 8 ≤ length b
    → part b i 8 ≡ byte b (i + 0) ∷ byte b (i + 1) ∷ byte b (i + 2) ∷ byte b (i + 3) ∷ byte b (i + 4) ∷ byte b (i + 5) ∷ byte b (i + 6) ∷ byte b (i + 7) ∷ []
part-eight b i l =
    let h : 8 ≤ length (drop i b) = rw (length-drop i b) (omega arith) in
    eight (drop i b) h
    ∙ rw (get_or-drop i b 0 0, get_or-drop i b 1 0, get_or-drop i b 2 0, get_or-drop i b 3 0)
    (rw (get_or-drop i b 4 0, get_or-drop i b 5 0, get_or-drop i b 6 0, get_or-drop i b 7 0))

pub part-four : (b : Bytes) (i : ℕ) → i + 4 ≤ length b → part b i 4 ≡ byte b (i + 0) ∷ byte b (i + 1) ∷ byte b (i + 2) ∷ byte b (i + 3) ∷ []
part-four b i l =
    let h : 4 ≤ length (drop i b) = rw (length-drop i b) (omega arith) in
    four-of (drop i b) h ∙ rw (get_or-drop i b 0 0, get_or-drop i b 1 0, get_or-drop i b 2 0, get_or-drop i b 3 0)

pub part-byte : (b : Bytes) (i n j : ℕ) → j < n → byte (part b i n) j ≡ byte b (i + j)
part-byte b i n j l = get_or-take n (drop i b) j 0 l ∙ get_or-drop i b j 0

pub length_part : (b : Bytes) (i n : ℕ) → i + n ≤ length b → length (part b i n) ≡ n
length_part b i n l = length-take-le n (drop i b) (rw (length-drop i b) (omega arith))

-- four stretches, read by place
module _ (h p e q : Bytes) where
  at_second : (i : ℕ) → i < length p → get_or (h ++ p ++ e ++ q) (length h + i) 0 ≡ get_or p i 0
  at_second i l =
      get_or-append (h ++ p ++ e) q 0 (length h + i) (rw (length-append (h ++ p) e, length-append h p) (omega arith))
      ∙ get_or-append (h ++ p) e 0 (length h + i) (rw (length-append h p) (omega arith)) ∙ get_or-append-add h p i 0

  at-third : (i : ℕ) → i < length e → get_or (h ++ p ++ e ++ q) (length h + length p + i) 0 ≡ get_or e i 0
  at-third i l =
      get_or-append (h ++ p ++ e) q 0 (length h + length p + i) (rw (length-append (h ++ p) e, length-append h p) (omega arith))
      ∙ ap (λ (x : ℕ). get_or (h ++ p ++ e) (x + i) 0) (sym (length-append h p)) ∙ get_or-append-add (h ++ p) e i 0

  at-fourth : (i : ℕ) → get_or (h ++ p ++ e ++ q) (length h + length p + length e + i) 0 ≡ get_or q i 0
  at-fourth i =
      ap (λ (x : ℕ). get_or (h ++ p ++ e ++ q) (x + i) 0) (sym (length-append (h ++ p) e ∙ ap (λ (x : ℕ). x + length e) (length-append h p)))
      ∙ get_or-append-add (h ++ p ++ e) q i 0

module _ (c n : Bytes) where
  -- types 1 to k, and fields 1 to m
  abbrev pub up_to : ℕ → ℕ → Draft
  up_to k m = record {
    base = name_at n 0;
    types = rows 8 c 8 k;
    fields = rows 4 c (8 + 8 * types c) m;
    segment_names = rows 8 n 16 k;
    field_names = rows 8 n (16 + 8 * types c) m;
  }

  -- types 1 to k, one more with this entry, and fields 1 to m
  abbrev pub within : ℕ → Bytes → ℕ → Draft
  within k e m = record {
    base = name_at n 0;
    types = rows 8 c 8 k ++ (e ∷ []);
    fields = rows 4 c (8 + 8 * types c) m;
    segment_names = rows 8 n 16 (suc k);
    field_names = rows 8 n (16 + 8 * types c) m;
  }

  pub within-whole : (k m : ℕ) → within k (part c (8 + 8 * k) 8) m ≡ up_to (suc k) m
  within-whole k m = rw (rows_last 8 c 8 k)

  pub within-types : (k : ℕ) (e : Bytes) (m : ℕ) → length (within k e m).types ≡ suc k
  within-types k e m = length-append (rows 8 c 8 k) (e ∷ []) ∙ ap (λ (x : ℕ). x + 1) (rows-length 8 c 8 k) ∙ omega arith

  -- the block as four stretches
  block-shape : (k : ℕ) (e : Bytes) (m : ℕ)
      → catalogue_of (within k e m) ≡ header 0x43 (suc k) m ++ part c 8 (8 * k) ++ e ++ part c (8 + 8 * types c) (4 * m)
  unfolding catalogue_of
  block-shape k e m =
      rw (within-types k e m, rows-length 4 c (8 + 8 * types c) m, joined_snoc (rows 8 c 8 k) e, joined-rows 8 c 8 k, joined-rows 4 c (8 + 8 * types c) m)
      (ap (λ (x : Bytes). x ++ part c (8 + 8 * types c) (4 * m)) (sym (append_assoc (header 0x43 (suc k) m) (part c 8 (8 * k)) e)))

  pub block-types : (k : ℕ) (e : Bytes) (m : ℕ) → types (catalogue_of (within k e m)) ≡ suc k
  unfolding types header
  block-types k e m = ap types (block-shape k e m)

  length-header : (l t f : ℕ) → length (header l t f) ≡ 8
  unfolding header
  length-header l t f = refl

  pub block-before : (k : ℕ) (e : Bytes) (m i : ℕ) → 8 + 8 * k ≤ length c → i < 8 * k → byte (catalogue_of (within k e m)) (8 + i) ≡ byte c (8 + i)
  block-before k e m i s l =
      let p : length (part c 8 (8 * k)) ≡ 8 * k = length_part c 8 (8 * k) s in
      ap (λ (x : Bytes). byte x (8 + i)) (block-shape k e m)
      ∙ ap (λ (x : ℕ). byte (header 0x43 (suc k) m ++ part c 8 (8 * k) ++ e ++ part c (8 + 8 * types c) (4 * m)) (x + i)) (sym (length-header 0x43 (suc k) m))
      ∙ at_second (header 0x43 (suc k) m) (part c 8 (8 * k)) e (part c (8 + 8 * types c) (4 * m)) i (omega arith)
      ∙ part-byte c 8 (8 * k) i l

  pub block-entry : (k : ℕ) (e : Bytes) (m i : ℕ) → 8 + 8 * k ≤ length c → i < length e → byte (catalogue_of (within k e m)) (8 * suc k + i) ≡ byte e i
  block-entry k e m i s l =
      let h : Bytes = header 0x43 (suc k) m in
      let p : length (part c 8 (8 * k)) ≡ 8 * k = length_part c 8 (8 * k) s in
      let z : 8 * suc k + i ≡ length h + length (part c 8 (8 * k)) + i = omega (arith, length-header 0x43 (suc k) m) in
      ap (λ (x : Bytes). byte x (8 * suc k + i)) (block-shape k e m)
      ∙ ap (byte (header 0x43 (suc k) m ++ part c 8 (8 * k) ++ e ++ part c (8 + 8 * types c) (4 * m))) z
      ∙ at-third (header 0x43 (suc k) m) (part c 8 (8 * k)) e (part c (8 + 8 * types c) (4 * m)) i l

  pub block-field : (k : ℕ) (e : Bytes) (m i : ℕ) → 8 + 8 * k ≤ length c → length e ≡ 8 → i < 4 * m
      → byte (catalogue_of (within k e m)) (8 + 8 * suc k + i) ≡ byte c (8 + 8 * types c + i)
  block-field k e m i s r l =
      let h : Bytes = header 0x43 (suc k) m in
      let p : length (part c 8 (8 * k)) ≡ 8 * k = length_part c 8 (8 * k) s in
      let z : 8 + 8 * suc k + i ≡ length h + length (part c 8 (8 * k)) + length e + i = omega (arith, length-header 0x43 (suc k) m) in
      ap (λ (x : Bytes). byte x (8 + 8 * suc k + i)) (block-shape k e m)
      ∙ ap (byte (header 0x43 (suc k) m ++ part c 8 (8 * k) ++ e ++ part c (8 + 8 * types c) (4 * m))) z
      ∙ at-fourth (header 0x43 (suc k) m) (part c 8 (8 * k)) e (part c (8 + 8 * types c) (4 * m)) i
      ∙ part-byte c (8 + 8 * types c) (4 * m) i l

-- a block with its mark and counts begins with their header
pub header-bytes : (letter : ℕ) (b : Bytes) → 8 ≤ length b → marked letter b ≡ true → byte b 7 ≡ 0 → take 8 b ≡ header letter (byte b 5) (byte b 6)
unfolding marked header
header-bytes letter b l h z =
    let p = four (eqb (byte b 0) 0x48) (eqb (byte b 1) 0x44) (eqb (byte b 2) letter) (eqb (word b 3) 1) h in
    let w : word b 3 ≡ 1 = eqb-true (word b 3) 1 p.3 in
    let b3 : byte b 3 ≡ 0 = omega arith in
    let b4 : byte b 4 ≡ 1 = omega arith in
    eight b l ∙ rw (eqb-true (byte b 0) 0x48 p.0, eqb-true (byte b 1) 0x44 p.1, eqb-true (byte b 2) letter p.2, b3, b4, z)

-- three stretches that are all there is
three-of : (b : Bytes) (i j k : ℕ) → length b ≡ i + j + k → take i b ++ part b i j ++ part b (i + j) k ≡ b
three-of b i j k l =
    let r : length (drop (i + j) b) ≤ k = rw (length-drop (i + j) b) (omega arith) in
    ap (λ (x : Bytes). take i b ++ part b i j ++ x) (take_all k (drop (i + j) b) r ∙ sym (drop-drop j i b))
    ∙ append_assoc (take i b) (part b i j) (drop j (drop i b)) ∙ ap (λ (x : Bytes). take i b ++ x) (take-append-drop j (drop i b)) ∙ take-append-drop i b

module _ (c n : Bytes) where
  -- R84: the draft behind the last statement
  pub block-whole : length c ≡ 8 + 8 * types c + 4 * fields c → take 8 c ≡ header 0x43 (types c) (fields c) → catalogue_of (up_to c n (types c) (fields c)) ≡ c
  unfolding catalogue_of
  block-whole l h =
      rw (rows-length 8 c 8 (types c), rows-length 4 c (8 + 8 * types c) (fields c))
      (rw (joined-rows 8 c 8 (types c), joined-rows 4 c (8 + 8 * types c) (fields c), ← h) (three-of c 8 (8 * types c) (4 * fields c) l))

  front_of : take 8 n ++ name_at n 0 ≡ take 16 n
  unfolding name_at
  front_of = sym (take-add 8 8 n)

  pub names-whole : length n ≡ 16 + 8 * types c + 8 * fields c → take 8 n ≡ header 0x4E (types c) (fields c) → names_of (up_to c n (types c) (fields c)) ≡ n
  unfolding names_of
  names-whole l h =
      rw (rows-length 8 c 8 (types c), rows-length 4 c (8 + 8 * types c) (fields c))
      (rw (joined-rows 8 n 16 (types c), joined-rows 8 n (16 + 8 * types c) (fields c), ← h, front_of) (three-of n 16 (8 * types c) (8 * fields c) l))
