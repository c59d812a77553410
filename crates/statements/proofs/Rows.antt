-- Entries that stand one behind another in a block: one more of them, two blocks that have the same ones, and all of them as one stretch. Assumes nothing.
use mathlib.Core.Path.{◌≡◌, refl, ap, sym, ◌∙◌}
use mathlib.Core.List.{[], ◌∷◌, ◌++◌}
use Prim.Native.Nat.{ℕ, zero, suc, ◌+◌, ◌*◌, ◌<◌, ◌≤◌}
use native.Mathlib.Nat.{mul-suc, mul-zero}
use native.Mathlib.Omega.{arith}
use lib.ListN.{length, take, drop, length-take, length-drop}
use lib.Seq.{get_or-take, get_or-drop, drop-drop, take-add, ext_get_or}
use Rattle.rules.specs.Block.{Bytes, byte, part}
use Rattle.statements.specs.Draft.{rows, joined_row}

-- the bytes from lo up to hi are the same
abbrev pub Alike : Bytes → Bytes → ℕ → ℕ → Type 0
Alike a b lo hi = (j : ℕ) → lo ≤ j → j < hi → byte a j ≡ byte b j

pub rows_last : (w : ℕ) (b : Bytes) (i n : ℕ) → rows w b i (suc n) ≡ rows w b i n ++ (part b (i + w * n) w ∷ [])
unfolding rows
rows_last w b i zero = let z : i + w * 0 ≡ i = omega (arith, mul-zero w) in rw z
rows_last w b i (suc n) =
    let z : i + w + w * n ≡ i + w * suc n = omega (arith, mul-suc w n) in
    ap (◌∷◌ (part b i w)) (rows_last w b (i + w) n ∙ ap (λ (k : ℕ). rows w b (i + w) n ++ (part b k w ∷ [])) z)

pub rows-length : (w : ℕ) (b : Bytes) (i n : ℕ) → length (rows w b i n) ≡ n
unfolding rows
rows-length w b i zero = refl
rows-length w b i (suc n) = ap suc (rows-length w b (i + w) n)

-- a stretch of a block is as long as it says, and has the block's bytes
pub part_length : (b : Bytes) (i n : ℕ) → i + n ≤ length b → length (part b i n) ≡ n
part_length b i n h = simp (length-take, length-drop) (omega arith)

pub part-byte : (b : Bytes) (i n k : ℕ) → k < n → byte (part b i n) k ≡ byte b (i + k)
part-byte b i n k h = get_or-take n (drop i b) k 0 h ∙ get_or-drop i b k 0

pub part-alike : (a b : Bytes) (i n : ℕ) → i + n ≤ length a → i + n ≤ length b → Alike a b i (i + n) → part a i n ≡ part b i n
part-alike a b i n h g s =
    ext_get_or 0 (part a i n) (part b i n) (part_length a i n h ∙ sym (part_length b i n g))
    (λ k l. let m : k < n = omega (arith, part_length a i n h) in part-byte a i n k m ∙ s (i + k) (omega arith) (omega arith) ∙ sym (part-byte b i n k m))

pub rows_alike : (w : ℕ) (a b : Bytes) (i n : ℕ) → i + w * n ≤ length a → i + w * n ≤ length b → Alike a b i (i + w * n) → rows w a i n ≡ rows w b i n
unfolding rows
rows_alike w a b i zero h g s = refl
rows_alike w a b i (suc n) h g s =
    let z : i + w * suc n ≡ i + w + w * n = omega (arith, mul-suc w n) in
    let p : part a i w ≡ part b i w = part-alike a b i w (omega arith) (omega arith) (λ j l m. s j l (omega arith)) in
    let q : rows w a (i + w) n ≡ rows w b (i + w) n = rows_alike w a b (i + w) n (omega arith) (omega arith) (λ j l m. s j (omega arith) (omega arith)) in
    cc

-- entries of what a block has from k on
pub rows_drop : (w k : ℕ) (b : Bytes) (i n : ℕ) → rows w (drop k b) i n ≡ rows w b (k + i) n
unfolding rows
rows_drop w k b i zero = refl
rows_drop w k b i (suc n) =
    let z : k + (i + w) ≡ k + i + w = omega arith in
    let p : part (drop k b) i w ≡ part b (k + i) w = ap (take w) (drop-drop i k b) in
    let q : rows w (drop k b) (i + w) n ≡ rows w b (k + i + w) n = rows_drop w k b (i + w) n ∙ ap (λ (j : ℕ). rows w b j n) z in
    cc

-- two stretches, one behind the other
pub part_then : (b : Bytes) (i m n : ℕ) → part b i m ++ part b (i + m) n ≡ part b i (m + n)
part_then b i m n = ap (λ (t : Bytes). part b i m ++ take n t) (sym (drop-drop m i b)) ∙ sym (take-add m n (drop i b))

pub joined-rows : (w : ℕ) (b : Bytes) (i n : ℕ) → joined_row (rows w b i n) ≡ part b i (w * n)
unfolding rows joined_row
joined-rows w b i zero = rw (mul-zero w)
joined-rows w b i (suc n) =
    let z : w + w * n ≡ w * suc n = omega (arith, mul-suc w n) in
    ap (λ (t : Bytes). part b i w ++ t) (joined-rows w b (i + w) n) ∙ part_then b i w (w * n) ∙ ap (part b i) z
