-- What one more name says of a name that is looked for, of a word with its spaces, and of bytes that are written over others. Assumes nothing.
use mathlib.Core.Path.{◌≡◌, refl, ap, sym, ◌∙◌}
use mathlib.Core.Bool.{true, false}
use mathlib.Core.List.{List, [], ◌∷◌, ◌++◌, append_assoc}
use Prim.Native.Nat.{ℕ, zero, suc, ◌+◌, ◌-◌, ◌*◌, ◌<◌, ◌≤◌}
use native.Mathlib.Nat.{sub-zero}
use native.Mathlib.Numerals.{add-one}
use native.Mathlib.Omega.{arith}
use lib.Dec.{ltb}
use Rattle.std.specs.Prelude.{Option, Some, None}
use Rattle.std.specs.Option.{MatchOption, unwrap_or}
use Rattle.std.specs.List.{AllWithin, HoldsAt}
use lib.ListN.{length, take, drop, replicate}
use lib.Seq.{sets, sets-eq, drop-drop, get_or-take, get_or-drop}
use borrow.Author.Tests.{lt-ltb, eq-eqb, ne_eqb}
use borrow.Rule.Slice.PartMut.{mid_of, put_mid}
use Rattle.forest.specs.Good.{on, off, is}
use Rattle.rules.specs.Block.{Bytes, byte, part, same_bytes}
use Rattle.statements.specs.Words.{filled, trimmed}
use Rattle.statements.specs.Draft.{rows, place_from, place_of, has, own_names}
use Rattle.dbd_names.proofs.Rows.{rows_end, rows_next}

-- bytes that were copied into a part of a block
pub put-at : (b from y : Bytes) (at : ℕ) → at + length from ≤ length b → y ≡ from → put_mid at (at + length from - at) b y ≡ sets b at from
put-at b from y at h e =
    let z : at + length from - at ≡ length from = omega arith in
    ap (λ (t : Bytes). put_mid at (at + length from - at) b t) e ∙ ap (λ (n : ℕ). take at b ++ (from ++ drop n (drop at b))) z
    ∙ ap (λ (t : Bytes). take at b ++ (from ++ t)) (drop-drop (length from) at b)
    ∙ sym (append_assoc (take at b) from (drop (at + length from) b)) ∙ sym (sets-eq from b at h)

drop-replicate : (k n x : ℕ) → drop k (replicate n x) ≡ replicate (n - k) x
drop-replicate zero n x = let z : n - 0 ≡ n = omega arith in rw z
drop-replicate (suc k) zero x = let z : 0 - suc k ≡ 0 = omega arith in rw z
drop-replicate (suc k) (suc n) x = let z : suc n - suc k ≡ n - k = omega arith in rw z (drop-replicate k n x)

-- R79: a word over eight spaces
pub filled-over : (w y : Bytes) → y ≡ w → y ++ drop (length w) (replicate 8 0x20) ≡ filled w
unfolding filled
filled-over w y e = ap (λ (t : Bytes). t ++ drop (length w) (replicate 8 0x20)) e ∙ ap (λ (t : Bytes). w ++ t) (drop-replicate (length w) 8 0x20)

-- the word of a name ends at its first space, or with the name
trimmed-at : (b : Bytes) (n : ℕ) → n ≤ length b → ((k : ℕ) → k < n → byte b k ≡ 0x20 → ⊥) → (n < length b → byte b n ≡ 0x20) → take n b ≡ trimmed b
unfolding trimmed
trimmed-at [] zero h f e = refl
trimmed-at [] (suc n) h f e = absurd (omega arith)
trimmed-at (x ∷ b) zero h f e = rw (trimmed, eq-eqb x 0x20 (e (omega arith)))
trimmed-at (x ∷ b) (suc n) h f e =
    rw (trimmed, ne_eqb x 0x20 (f 0 (omega arith)))
    (ap (λ (t : Bytes). x ∷ t) (trimmed-at b n (omega arith) (λ k l. f (suc k) (omega arith)) (λ l. e (omega arith))))

pub name_ends : (b : Bytes) (r : Option ℕ) (n : ℕ) → n ≡ unwrap_or r (length b)
    → MatchOption r (AllWithin (λ x. x ≡ 0x20 → ⊥) b 0 (length b)) (λ i. (i < length b) × HoldsAt (λ x. x ≡ 0x20) b i × AllWithin (λ x. x ≡ 0x20 → ⊥) b 0 i)
    → (n ≤ length b) × (part b 0 n ≡ trimmed b)
name_ends b None n z f = (
  omega arith,
  trimmed-at b n (omega arith) (λ k l. f k 0 (omega arith) (omega arith)) (λ l. absurd (omega arith)),
)
name_ends b (Some i) n z f = (
  omega (arith, f.0),
  trimmed-at b n (omega (arith, f.0)) (λ k l. f.2 k 0 (omega arith) (omega arith)) (λ l. ap (byte b) z ∙ f.1 0),
)

-- a name before others, which is the one that is looked for or is not
pub place_none : (i : ℕ) (n : Bytes) → place_from i n [] ≡ 0
unfolding place_from
place_none i n = refl

pub place-first : (i : ℕ) (n x : Bytes) (xs : List Bytes) → same_bytes n x ≡ true → place_from i n (x ∷ xs) ≡ i
unfolding place_from
place-first i n x xs e = rw (place_from, e)

pub place-later : (i : ℕ) (n x : Bytes) (xs : List Bytes) → same_bytes n x ≡ false → place_from i n (x ∷ xs) ≡ place_from (suc i) n xs
unfolding place_from
place-later i n x xs e = rw (place_from, e)

-- whether a name is there does not hang on the number of the first
found_from : (i j : ℕ) (n : Bytes) (xs : List Bytes) → ltb 0 (place_from (suc i) n xs) ≡ ltb 0 (place_from (suc j) n xs)
found_from i j n [] = rw (place_none (suc i) n, place_none (suc j) n)
found_from i j n (x ∷ xs) = elim (is (same_bytes n x)) [
  | on e ↦ rw (place-first (suc i) n x xs e, place-first (suc j) n x xs e, lt-ltb 0 (suc i) (omega arith), lt-ltb 0 (suc j) (omega arith))
  | off e ↦ rw (place-later (suc i) n x xs e, place-later (suc j) n x xs e) (found_from (suc i) (suc j) n xs)
]

pub has-none : (n : Bytes) → has n [] ≡ false
unfolding has place_of place_from
has-none n = refl

pub has_first : (n x : Bytes) (xs : List Bytes) → same_bytes n x ≡ true → has n (x ∷ xs) ≡ true
unfolding has place_of
has_first n x xs e = rw (place-first 1 n x xs e)

pub has-later : (n x : Bytes) (xs : List Bytes) → same_bytes n x ≡ false → has n (x ∷ xs) ≡ has n xs
unfolding has place_of
has-later n x xs e = ap (ltb 0) (place-later 1 n x xs e) ∙ found_from 1 0 n xs

-- a field before others, which is of type t or is not
pub own_first : (t : ℕ) (f : Bytes) (fs : List Bytes) (n : Bytes) (ns : List Bytes) → byte f 0 ≡ t → own_names t (f ∷ fs) (n ∷ ns) ≡ n ∷ own_names t fs ns
unfolding own_names
own_first t f fs n ns e = rw (own_names, eq-eqb (byte f 0) t e)

pub own-later : (t : ℕ) (f : Bytes) (fs : List Bytes) (n : Bytes) (ns : List Bytes) → (byte f 0 ≡ t → ⊥)
    → own_names t (f ∷ fs) (n ∷ ns) ≡ own_names t fs ns
unfolding own_names
own-later t f fs n ns e = rw (own_names, ne_eqb (byte f 0) t e)

pub own-none : (t : ℕ) (ns : List Bytes) → own_names t [] ns ≡ []
unfolding own_names
own-none t ns = refl

-- the name at place i of a row of names, where k is i as an index
entry_of : (b : Bytes) (i k : ℕ) → k ≡ i → mid_of (8 * k) (8 * k + 8 - 8 * k) b ≡ part b (8 * i) 8
entry_of b i k e = let z : 8 * k + 8 - 8 * k ≡ 8 = omega arith in rw (z, e)

module _ (b n : Bytes) (i last k : ℕ) (at : k ≡ i) (h : i < last) where
  pub place_here : true ≡ same_bytes n (mid_of (8 * k) (8 * k + 8 - 8 * k) b) → i + 1 ≡ place_from (i + 1) n (rows 8 b (8 * i) (last - i))
  place_here e =
      rw (rows_next 8 b i last h)
      (sym (place-first (i + 1) n (part b (8 * i) 8) (rows 8 b (8 * (i + 1)) (last - (i + 1))) (rw (← entry_of b i k at) (sym e))))

  pub place-next : false ≡ same_bytes n (mid_of (8 * k) (8 * k + 8 - 8 * k) b)
      → place_from (i + 1 + 1) n (rows 8 b (8 * (i + 1)) (last - (i + 1))) ≡ place_from (i + 1) n (rows 8 b (8 * i) (last - i))
  place-next e =
      rw (add-one (i + 1), rows_next 8 b i last h)
      (sym (place-later (i + 1) n (part b (8 * i) 8) (rows 8 b (8 * (i + 1)) (last - (i + 1))) (rw (← entry_of b i k at) (sym e))))

pub place-start : (b n : Bytes) (last : ℕ) → place_from (0 + 1) n (rows 8 b (8 * 0) (last - 0)) ≡ place_of n (rows 8 b 0 last)
unfolding place_of
place-start b n last = rw sub-zero

pub place_end : (b n : Bytes) (i last : ℕ) → last ≤ i → 0 ≡ place_from (i + 1) n (rows 8 b (8 * i) (last - i))
place_end b n i last h = rw (rows_end 8 b i last h) (sym (place_none (i + 1) n))

-- the names of the fields of type t from place i on
abbrev pub own_from : Bytes → Bytes → ℕ → ℕ → ℕ → List Bytes
own_from fs b last t i = own_names t (rows 4 fs (4 * i) (last - i)) (rows 8 b (8 * i) (last - i))

-- the first byte of an entry is its type
first_byte : (fs : Bytes) (k : ℕ) → byte (part fs k 4) 0 ≡ byte fs k
first_byte fs k = get_or-take 4 (drop k fs) 0 0 (omega arith) ∙ get_or-drop k fs 0 0 ∙ (let z : k + 0 ≡ k = omega arith in rw z)

module _ (fs b : Bytes) (t i last : ℕ) (h : i < last) where
  own-here : byte fs (4 * i) ≡ t → own_from fs b last t i ≡ part b (8 * i) 8 ∷ own_from fs b last t (i + 1)
  own-here e =
      rw (rows_next 4 fs i last h, rows_next 8 b i last h)
      (own_first t (part fs (4 * i) 4) (rows 4 fs (4 * (i + 1)) (last - (i + 1))) (part b (8 * i) 8) (rows 8 b (8 * (i + 1)) (last - (i + 1)))
      (first_byte fs (4 * i) ∙ e))

  own-other : (byte fs (4 * i) ≡ t → ⊥) → own_from fs b last t i ≡ own_from fs b last t (i + 1)
  own-other e =
      rw (rows_next 4 fs i last h, rows_next 8 b i last h)
      (own-later t (part fs (4 * i) 4) (rows 4 fs (4 * (i + 1)) (last - (i + 1))) (part b (8 * i) 8) (rows 8 b (8 * (i + 1)) (last - (i + 1)))
      (λ z. e (sym (first_byte fs (4 * i)) ∙ z)))

-- a field of type t with the name, one with another name, and a field of another type, where k is i as an index
module _ (fs b n : Bytes) (t i last k : ℕ) (at : k ≡ i) (h : i < last) where
  pub is-other : (byte fs (4 * k) ≡ t → ⊥) → has n (own_from fs b last t (i + 1)) ≡ has n (own_from fs b last t i)
  is-other e = ap (has n) (sym (own-other fs b t i last h (λ z. e (ap (λ (m : ℕ). byte fs (4 * m)) at ∙ z))))

  module _ (e : byte fs (4 * k) ≡ t) where
    of-type : byte fs (4 * i) ≡ t
    of-type = ap (λ (m : ℕ). byte fs (4 * m)) (sym at) ∙ e

    pub is-here : true ≡ same_bytes n (mid_of (8 * k) (8 * k + 8 - 8 * k) b) → true ≡ has n (own_from fs b last t i)
    is-here s =
        rw (own-here fs b t i last h of-type)
        (sym (has_first n (part b (8 * i) 8) (own_from fs b last t (i + 1)) (rw (← entry_of b i k at) (sym s))))

    pub is-next : false ≡ same_bytes n (mid_of (8 * k) (8 * k + 8 - 8 * k) b)
        → has n (own_from fs b last t (i + 1)) ≡ has n (own_from fs b last t i)
    is-next s =
        rw (own-here fs b t i last h of-type)
        (sym (has-later n (part b (8 * i) 8) (own_from fs b last t (i + 1)) (rw (← entry_of b i k at) (sym s))))

pub is-start : (fs b n : Bytes) (t last : ℕ) → has n (own_from fs b last t 0) ≡ has n (own_names t (rows 4 fs 0 last) (rows 8 b 0 last))
is-start fs b n t last = simp sub-zero

pub is-end : (fs b n : Bytes) (t i last : ℕ) → last ≤ i → false ≡ has n (own_from fs b last t i)
is-end fs b n t i last h = rw (rows_end 4 fs i last h, own-none t (rows 8 b (8 * i) (last - i))) (sym (has-none n))
