-- Two numbers of one length stand as their bytes do, the sign half left off: so code compares bytes and makes no number of them. Assumes nothing.
use Rattle.std.specs.declared.cmp.Ordering.{Ordering}
use Rattle.std.specs.declared.cmp.Ordering.TheVariants.{Equal, Greater, Less}
use mathlib.Core.Path.{◌≡◌, ap, sym, ◌∙◌}
use mathlib.Core.Bool.{true}
use mathlib.Core.List.{[], ◌∷◌}
use Prim.Native.Nat.{ℕ, zero, suc, ◌+◌, ◌*◌, ◌/◌, ◌%◌, ◌<◌}
use native.Mathlib.Omega.{arith}
use lib.ListN.{length, take}
use Rattle.forest.specs.Forest.{inside, outside, side}
use Rattle.rules.specs.Block.{Bytes, byte}
use Rattle.rules.specs.Order.{order}
use Rattle.rules.specs.Packed.{is_number, digits_on, number_order}
use Rattle.rules.proofs.Order.{order-on, order-less, order-more}
use Rattle.rules.proofs.Packed.{number-less, number_more, number-alike}
use Rattle.values.proofs.Number.{pair-digits, last-digit}

-- what the digits of n are with two more behind them, those of byte x
abbrev pub further : ℕ → ℕ → ℕ
further n x = 100 * n + 10 * (x / 16) + x % 16

-- the digits before decide, if they differ
digits-less : (n m : ℕ) (xs ys : Bytes) → length xs ≡ length ys → is_number xs ≡ true → is_number ys ≡ true → n < m → digits_on n xs < digits_on m ys
unfolding is_number digits_on
digits-less n m [] ys l e f h = (let z : ◌≡◌ {A = ℕ} 0 1 = cc in absurd (omega arith))
digits-less n m (x ∷ xs) [] l e f h = absurd (omega arith)
digits-less n m (x ∷ []) (y ∷ []) l e f h = (let a = last-digit x e in omega arith)
digits-less n m (x ∷ []) (y ∷ y' ∷ ys) l e f h = absurd (omega arith)
digits-less n m (x ∷ x' ∷ xs) (y ∷ []) l e f h = absurd (omega arith)
digits-less n m (x ∷ x' ∷ xs) (y ∷ y' ∷ ys) l e f h =
    let a = pair-digits x x' xs e in
    digits-less (further n x) (further m y) (x' ∷ xs) (y' ∷ ys) (omega arith) a.2 (pair-digits y y' ys f).2 (omega arith)

-- the first that differ decide
abbrev pub and_then : Ordering → Ordering → Ordering
and_then Less o = Less
and_then Equal o = o
and_then Greater o = Greater

-- LAW: of two numbers of k + 1 bytes the first k bytes decide, then the digit in the last
pub digits-order : (n k : ℕ) (xs ys : Bytes) → length xs ≡ suc k → length ys ≡ suc k → is_number xs ≡ true → is_number ys ≡ true
    → and_then (order (take k xs) (take k ys)) (number_order (byte xs k / 16) (byte ys k / 16)) ≡ number_order (digits_on n xs) (digits_on n ys)
unfolding digits_on order
digits-order n k [] ys l m e f = absurd (omega arith)
digits-order n k (x ∷ xs) [] l m e f = absurd (omega arith)
digits-order n zero (x ∷ []) (y ∷ []) l m e f = number-alike (x / 16) (y / 16) (10 * n + x / 16) (10 * n + y / 16) (omega arith)
digits-order n zero (x ∷ []) (y ∷ y' ∷ ys) l m e f = absurd (omega arith)
digits-order n zero (x ∷ x' ∷ xs) (y ∷ ys) l m e f = absurd (omega arith)
digits-order n (suc k) (x ∷ []) (y ∷ ys) l m e f = absurd (omega arith)
digits-order n (suc k) (x ∷ x' ∷ xs) (y ∷ []) l m e f = absurd (omega arith)
digits-order n (suc k) (x ∷ x' ∷ xs) (y ∷ y' ∷ ys) l m e f =
    let a = pair-digits x x' xs e in
    let b = pair-digits y y' ys f in
    let v : Bytes = take k (x' ∷ xs) in
    let w : Bytes = take k (y' ∷ ys) in
    let first : Ordering → Ordering = λ q. and_then q (number_order (byte (x' ∷ xs) k / 16) (byte (y' ∷ ys) k / 16)) in
    elim (side x y) [
      | inside h ↦
          ap first (order-less x y v w h)
          ∙ sym (number-less _ _ (digits-less (further n x) (further n y) (x' ∷ xs) (y' ∷ ys) (omega arith) a.2 b.2 (omega arith)))
      | outside h ↦ elim (side y x) [
        | inside g ↦
            ap first (order-more x y v w g)
            ∙ sym (number_more _ _ (digits-less (further n y) (further n x) (y' ∷ ys) (x' ∷ xs) (omega arith) b.2 a.2 (omega arith)))
        | outside g ↦
            let z : x ≡ y = omega arith in
            ap first (order-on x y v w z)
            ∙ digits-order (further n x) k (x' ∷ xs) (y' ∷ ys) (omega arith) (omega arith) a.2 b.2
            ∙ ap (λ (u : ℕ). number_order (digits_on (further n x) (x' ∷ xs)) (digits_on (further n u) (y' ∷ ys))) z
      ]
    ]
