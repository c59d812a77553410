-- Bytes one after the other: what a loop has still to look at. Assumes nothing.
use mathlib.Core.Path.{◌≡◌, refl, ap, sym, ◌∙◌}
use mathlib.Core.Bool.{true, false, ◌&&◌, and-true, and-false}
use mathlib.Core.List.{[], ◌∷◌}
use Prim.Native.Nat.{ℕ, suc, max, min, ◌+◌, ◌<◌, ◌≤◌}
use native.Mathlib.Numerals.{add-one}
use native.Mathlib.Omega.{arith}
use lib.Dec.{eqb}
use lib.ListN.{length, drop, drop_of_length-le}
use lib.Seq.{drop-cons}
use borrow.Author.Tests.{eq-eqb, ne_eqb, lt-ltb, le-ltb}
use Rattle.std.proofs.Common.{nat_cmp, Equal}
use Rattle.forest.specs.Forest.{inside, outside, side}
use Rattle.forest.specs.Good.{on, off, is}
use Rattle.rules.specs.Block.{Bytes, byte, every, zeros, same_bytes}
use Rattle.rules.specs.Order.{order}
use Rattle.rules.proofs.Every.{every_in, every-out}
use Rattle.rules.proofs.Order.{order-on, order-less, order-more}

-- what is left at i, taken apart
left_at : (b : Bytes) (i : ℕ) → i < length b → drop i b ≡ byte b i ∷ drop (i + 1) b
left_at b i h = rw add-one (drop-cons b i 0 h)

none_left : (b : Bytes) (i : ℕ) → length b ≤ i → drop i b ≡ []
none_left b i h = drop_of_length-le b {i = i} h

module _ (b : Bytes) (i : ℕ) where
  zeros-next : i < length b → byte b i ≡ 0 → zeros (drop (i + 1) b) ≡ zeros (drop i b)
  unfolding zeros
  zeros-next h e = sym (ap (every (λ x. eqb x 0)) (left_at b i h) ∙ every_in (λ x. eqb x 0) (byte b i) (drop (i + 1) b) (eq-eqb (byte b i) 0 e))

  zeros-stop : i < length b → (byte b i ≡ 0 → ⊥) → false ≡ zeros (drop i b)
  unfolding zeros
  zeros-stop h n = sym (ap (every (λ x. eqb x 0)) (left_at b i h) ∙ every-out (λ x. eqb x 0) (byte b i) (drop (i + 1) b) (ne_eqb (byte b i) 0 n))

  zeros-end : length b ≤ i → true ≡ zeros (drop i b)
  unfolding zeros every
  zeros-end h = rw (none_left b i h)

  -- the greatest byte so far, and what is left: all are zeros as long as neither says otherwise
  module _ (most : ℕ) where
    most-more : i < length b → most < byte b i → (eqb (byte b i) 0 && zeros (drop (i + 1) b)) ≡ (eqb most 0 && zeros (drop i b))
    most-more h l = rw (ne_eqb (byte b i) 0 (λ e. omega arith), ← zeros-stop h (λ e. omega arith)) (sym (and-false (eqb most 0)))

    most-same : i < length b → byte b i ≤ most → (eqb most 0 && zeros (drop (i + 1) b)) ≡ (eqb most 0 && zeros (drop i b))
    most-same h l = elim (side 0 most) [
      | inside z ↦ rw (ne_eqb most 0 (λ e. omega arith))
      | outside z ↦ rw (zeros-next h (omega arith))
    ]

    pub most-next : i < length b → (eqb (max most (byte b i)) 0 && zeros (drop (i + 1) b)) ≡ (eqb most 0 && zeros (drop i b))
    most-next h = elim (side most (byte b i)) [
      | inside l ↦ (let z : max most (byte b i) ≡ byte b i = omega arith in rw z (most-more h l))
      | outside l ↦ (let z : max most (byte b i) ≡ most = omega arith in rw z (most-same h l))
    ]

    pub most-end : length b ≤ i → eqb most 0 ≡ (eqb most 0 && zeros (drop i b))
    most-end h = rw (← zeros-end h) (sym (and-true (eqb most 0)))

-- two values from byte i on: the first bytes that differ decide
module _ (a b : Bytes) (i : ℕ) where
  pub order_next : i < min (length a) (length b) → byte a i ≡ byte b i → order (drop (i + 1) a) (drop (i + 1) b) ≡ order (drop i a) (drop i b)
  order_next h e = sym (rw (left_at a i (omega arith), left_at b i (omega arith)) (order-on (byte a i) (byte b i) (drop (i + 1) a) (drop (i + 1) b) e))

  pub order_told : i < min (length a) (length b) → (byte a i ≡ byte b i → ⊥) → nat_cmp (byte a i) (byte b i) ≡ order (drop i a) (drop i b)
  order_told h n = rw (left_at a i (omega arith), left_at b i (omega arith)) (elim (side (byte a i) (byte b i)) [
    | inside l ↦ rw (order-less (byte a i) (byte b i) (drop (i + 1) a) (drop (i + 1) b) l, lt-ltb (byte a i) (byte b i) l)
    | outside l ↦ (let m : byte b i < byte a i = omega (arith, n) in
        rw (order-more (byte a i) (byte b i) (drop (i + 1) a) (drop (i + 1) b) m, le-ltb (byte a i) (byte b i) l, ne_eqb (byte a i) (byte b i) n))
  ])

  pub order_end : min (length a) (length b) ≤ i → Equal ≡ order (drop i a) (drop i b)
  unfolding order
  order_end h = elim (side i (length a)) [
    | inside l ↦ rw (left_at a i l, none_left b i (omega arith))
    | outside l ↦ rw (none_left a i l)
  ]

  pub same_next : i < length a → i < length b → byte a i ≡ byte b i → same_bytes (drop (i + 1) a) (drop (i + 1) b) ≡ same_bytes (drop i a) (drop i b)
  unfolding same_bytes
  same_next h k e = sym (rw (left_at a i h, left_at b i k, same_bytes, eq-eqb (byte a i) (byte b i) e))

  pub same_stop : i < length a → i < length b → (byte a i ≡ byte b i → ⊥) → false ≡ same_bytes (drop i a) (drop i b)
  unfolding same_bytes
  same_stop h k n = rw (left_at a i h, left_at b i k, same_bytes, ne_eqb (byte a i) (byte b i) n)

  pub same_end : length a ≤ i → length b ≤ i → true ≡ same_bytes (drop i a) (drop i b)
  unfolding same_bytes
  same_end h k = rw (none_left a i h, none_left b i k)

-- values of other lengths are not the same
pub same_length : (a b : Bytes) → (length a ≡ length b → ⊥) → false ≡ same_bytes a b
unfolding same_bytes
same_length [] [] n = absurd (n refl)
same_length [] (y ∷ ys) n = refl
same_length (x ∷ xs) [] n = refl
same_length (x ∷ xs) (y ∷ ys) n = elim (is (eqb x y)) [
  | on e ↦ rw (same_bytes, e) (same_length xs ys (λ z. n (ap suc z)))
  | off e ↦ rw (same_bytes, e)
]
