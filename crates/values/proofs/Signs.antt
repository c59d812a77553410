-- Signs: which is minus, and how two numbers of any signs stand by their digits. Assumes nothing.
use Rattle.std.specs.declared.cmp.Ordering.{Ordering}
use Rattle.std.specs.declared.cmp.Ordering.TheVariants.{Equal, Greater, Less}
use mathlib.Core.Path.{◌≡◌, sym}
use mathlib.Core.Bool.{true, false, ◌&&◌}
use Prim.Native.Nat.{ℕ, ◌+◌, ◌<◌}
use native.Mathlib.Omega.{arith}
use lib.Dec.{eqb}
use borrow.Author.Tests.{eq-eqb, ne_eqb}
use Rattle.terms.specs.Choice.{pick}
use Rattle.forest.specs.Forest.{inside, outside, side}
use Rattle.rules.specs.Block.{Bytes}
use Rattle.rules.specs.Packed.{magnitude, is_minus, above, below, number_order, packed_order}
use Rattle.rules.proofs.Packed.{number-less, number_same, number_more, number-alike}
use Rattle.values.specs.Lent.{unless_zeros}

-- o where one of two numbers of digits is not 0, and Equal where both are
either : (n m s t : ℕ) (o : Ordering) → (0 < n + m → number_order s t ≡ o) → (n + m ≡ 0 → number_order s t ≡ Equal)
    → pick (eqb n 0 && eqb m 0) Equal o ≡ number_order s t
either n m s t o f g = elim (side 0 n) [
  | inside l ↦ rw (ne_eqb n 0 (λ e. omega arith)) (sym (f (omega arith)))
  | outside l ↦ elim (side 0 m) [
    | inside k ↦ rw (eq-eqb n 0 (omega arith), ne_eqb m 0 (λ e. omega arith)) (sym (f (omega arith)))
    | outside k ↦ rw (eq-eqb n 0 (omega arith), eq-eqb m 0 (omega arith)) (sym (g (omega arith)))
  ]
]

module _ (a b : Bytes) where
  -- the four cases of two signs
  pub both-plus : is_minus a ≡ false → is_minus b ≡ false → number_order (magnitude a) (magnitude b) ≡ packed_order a b
  unfolding packed_order above below
  both-plus e f = rw (e, f) (number-alike (magnitude a) (magnitude b) (magnitude a + 0) (magnitude b + 0) (omega arith))

  pub both-minus : is_minus a ≡ true → is_minus b ≡ true → number_order (magnitude b) (magnitude a) ≡ packed_order a b
  unfolding packed_order above below
  both-minus e f = rw (e, f) (number-alike (magnitude b) (magnitude a) (0 + magnitude b) (0 + magnitude a) (omega arith))

  pub minus_plus : is_minus a ≡ true → is_minus b ≡ false → unless_zeros a b Less ≡ packed_order a b
  unfolding packed_order above below
  minus_plus e f =
      rw (e, f) (either (magnitude a) (magnitude b) _ _ Less (λ l. number-less _ _ (omega arith)) (λ z. number_same _ _ (omega arith)))

  pub plus-minus : is_minus a ≡ false → is_minus b ≡ true → unless_zeros a b Greater ≡ packed_order a b
  unfolding packed_order above below
  plus-minus e f =
      rw (e, f) (either (magnitude a) (magnitude b) _ _ Greater (λ l. number_more _ _ (omega arith)) (λ z. number_same _ _ (omega arith)))
