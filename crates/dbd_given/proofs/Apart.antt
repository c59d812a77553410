-- Names that stand in a row, one after the other against those behind it: whether they differ (R82). Assumes nothing.
use mathlib.Core.Path.{◌≡◌, refl, ap, sym, ◌∙◌}
use mathlib.Core.Bool.{Bool, true, false}
use mathlib.Core.List.{List, [], ◌∷◌}
use Prim.Native.Nat.{ℕ, zero, suc, ◌+◌, ◌-◌, ◌*◌, ◌<◌, ◌≤◌}
use native.Mathlib.Nat.{sub-zero}
use native.Mathlib.Omega.{arith}
use lib.Dec.{ltb}
use lib.ListN.{length, take, drop, length-drop}
use lib.Seq.{take_all, drop-drop, get_or-take, get_or-drop}
use borrow.Author.Tests.{lt-ltb}
use borrow.Rule.Slice.PartMut.{mid_of}
use Rattle.rules.specs.Block.{Bytes, byte, part}
use Rattle.statements.specs.Draft.{rows, place_of, has, own_names}
use Rattle.statements.specs.Dbd.{distinct}
use Rattle.dbd_names.proofs.Rows.{rows-zero, rows-suc, rows_end, rows_next}
use Rattle.dbd_names.proofs.Named.{own_from, own_first, own-later, own-none}

pub distinct_none : distinct [] ≡ true
unfolding distinct
distinct_none = refl

pub distinct-stop : (x : Bytes) (xs : List Bytes) → has x xs ≡ true → distinct (x ∷ xs) ≡ false
unfolding distinct
distinct-stop x xs e = rw (distinct, e)

pub distinct-next : (x : Bytes) (xs : List Bytes) → has x xs ≡ false → distinct (x ∷ xs) ≡ distinct xs
unfolding distinct
distinct-next x xs e = rw (distinct, e)

-- the entries of a tail are those of the whole from there on
rows_drop : (w : ℕ) (b : Bytes) (e k n : ℕ) → rows w (drop e b) k n ≡ rows w b (e + k) n
rows_drop w b e k zero = rows-zero w (drop e b) k ∙ sym (rows-zero w b (e + k))
rows_drop w b e k (suc n) =
    let z : e + (k + w) ≡ e + k + w = omega arith in
    rows-suc w (drop e b) k n ∙ ap (λ (t : Bytes). take w t ∷ rows w (drop e b) (k + w) n) (drop-drop k e b)
    ∙ ap (λ (t : List Bytes). part b (e + k) w ∷ t) (rows_drop w b e (k + w) n ∙ ap (λ (a : ℕ). rows w b a n) z)
    ∙ sym (rows-suc w b (e + k) n)

pub rows-tail : (w : ℕ) (b : Bytes) (e n : ℕ) → rows w (mid_of e (length b - e) b) 0 n ≡ rows w b e n
rows-tail w b e n =
    let z : e + 0 ≡ e = omega arith in
    ap (λ (t : Bytes). rows w t 0 n) (take_all (length b - e) (drop e b) (simp length-drop (omega arith)))
    ∙ rows_drop w b e 0 n ∙ ap (λ (a : ℕ). rows w b a n) z

-- whether the names from place i on differ, the name at i being that from byte `at` to byte `end`
module _ (b : Bytes) (i n at end : ℕ) (start : at ≡ 8 * i) (long : end ≡ at + 8) where
  entry_of : mid_of at (end - at) b ≡ part b (8 * i) 8
  entry_of = let z : end - at ≡ 8 = omega arith in rw (z, start)

  next-at : end ≡ 8 * (i + 1)
  next-at = omega arith

  behind : rows 8 (mid_of end (length b - end) b) 0 (n - (i + 1)) ≡ rows 8 b (8 * (i + 1)) (n - (i + 1))
  behind = rows-tail 8 b end (n - (i + 1)) ∙ ap (λ (a : ℕ). rows 8 b a (n - (i + 1))) next-at

  module _ (h : i < n) (r : ℕ) (is : r ≡ place_of (mid_of at (end - at) b) (rows 8 (mid_of end (length b - end) b) 0 (n - (i + 1)))) where
    placed : place_of (part b (8 * i) 8) (rows 8 b (8 * (i + 1)) (n - (i + 1))) ≡ r
    placed =
        sym (is ∙ ap (λ (t : Bytes). place_of t (rows 8 (mid_of end (length b - end) b) 0 (n - (i + 1)))) entry_of
        ∙ ap (place_of (part b (8 * i) 8)) behind)

    pub apart-stop : (r ≡ 0 → ⊥) → false ≡ distinct (rows 8 b (8 * i) (n - i))
    unfolding has
    apart-stop e =
        rw (rows_next 8 b i n h)
        (sym (distinct-stop (part b (8 * i) 8) (rows 8 b (8 * (i + 1)) (n - (i + 1))) (ap (ltb 0) placed ∙ lt-ltb 0 r (omega arith))))

    pub apart_next : r ≡ 0 → distinct (rows 8 b (8 * (i + 1)) (n - (i + 1))) ≡ distinct (rows 8 b (8 * i) (n - i))
    unfolding has
    apart_next e =
        rw (rows_next 8 b i n h)
        (sym (distinct-next (part b (8 * i) 8) (rows 8 b (8 * (i + 1)) (n - (i + 1))) (ap (ltb 0) (placed ∙ e))))

pub apart-start : (b : Bytes) (n : ℕ) → distinct (rows 8 b (8 * 0) (n - 0)) ≡ distinct (rows 8 b 0 n)
apart-start b n = rw sub-zero

pub apart-end : (b : Bytes) (i n : ℕ) → n ≤ i → true ≡ distinct (rows 8 b (8 * i) (n - i))
apart-end b i n h = rw (rows_end 8 b i n h) (sym distinct_none)

-- the first byte of an entry is its type
first_byte : (fs : Bytes) (k : ℕ) → byte (part fs k 4) 0 ≡ byte fs k
first_byte fs k = get_or-take 4 (drop k fs) 0 0 (omega arith) ∙ get_or-drop k fs 0 0 ∙ (let z : k + 0 ≡ k = omega arith in rw z)

-- the names of the fields of type t, from place i on: its entry is at byte `entry`, and the next one's at byte `next`
module _ (fs b : Bytes) (t i n entry : ℕ) (from : entry ≡ 4 * i) (h : i < n) where
  pub own-other : (byte fs entry ≡ t → ⊥) → distinct (own_from fs b n t (i + 1)) ≡ distinct (own_from fs b n t i)
  own-other e =
      rw (rows_next 4 fs i n h, rows_next 8 b i n h)
      (ap distinct (sym (own-later t (part fs (4 * i) 4) (rows 4 fs (4 * (i + 1)) (n - (i + 1))) (part b (8 * i) 8) (rows 8 b (8 * (i + 1)) (n - (i + 1)))
      (λ z. e (ap (byte fs) from ∙ sym (first_byte fs (4 * i)) ∙ z)))))

  module _ (next at end : ℕ) (wide : next ≡ entry + 4) (start : at ≡ 8 * i) (long : end ≡ at + 8) (of : byte fs entry ≡ t) where
    own-here : own_from fs b n t i ≡ part b (8 * i) 8 ∷ own_from fs b n t (i + 1)
    own-here =
        rw (rows_next 4 fs i n h, rows_next 8 b i n h)
        (own_first t (part fs (4 * i) 4) (rows 4 fs (4 * (i + 1)) (n - (i + 1))) (part b (8 * i) 8) (rows 8 b (8 * (i + 1)) (n - (i + 1)))
        (first_byte fs (4 * i) ∙ ap (byte fs) (sym from) ∙ of))

    behind-entries : rows 4 (mid_of next (length fs - next) fs) 0 (n - (i + 1)) ≡ rows 4 fs (4 * (i + 1)) (n - (i + 1))
    behind-entries = let z : next ≡ 4 * (i + 1) = omega arith in rows-tail 4 fs next (n - (i + 1)) ∙ ap (λ (a : ℕ). rows 4 fs a (n - (i + 1))) z

    module _ (r : Bool)
        (is : r ≡ has (mid_of at (end - at) b)
        (own_names t (rows 4 (mid_of next (length fs - next) fs) 0 (n - (i + 1))) (rows 8 (mid_of end (length b - end) b) 0 (n - (i + 1))))) where
      own-has : has (part b (8 * i) 8) (own_from fs b n t (i + 1)) ≡ r
      own-has = sym (is ∙ rw (behind-entries, behind b i n at end start long, entry_of b i n at end start long))

      pub own-stop : r ≡ true → false ≡ distinct (own_from fs b n t i)
      own-stop e = rw own-here (sym (distinct-stop (part b (8 * i) 8) (own_from fs b n t (i + 1)) (own-has ∙ e)))

      pub own-next : r ≡ false → distinct (own_from fs b n t (i + 1)) ≡ distinct (own_from fs b n t i)
      own-next e = rw own-here (sym (distinct-next (part b (8 * i) 8) (own_from fs b n t (i + 1)) (own-has ∙ e)))

pub own-start : (fs b : Bytes) (t n : ℕ) → distinct (own_from fs b n t 0) ≡ distinct (own_names t (rows 4 fs 0 n) (rows 8 b 0 n))
own-start fs b t n = simp sub-zero

pub own-end : (fs b : Bytes) (t i n : ℕ) → n ≤ i → true ≡ distinct (own_from fs b n t i)
own-end fs b t i n h = rw (rows_end 4 fs i n h, own-none t (rows 8 b (8 * i) (n - i))) (sym distinct_none)
