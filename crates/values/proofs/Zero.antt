-- Every digit is 0: the bytes before the last are zeros, and the last is below 16. Assumes nothing.
use mathlib.Core.Path.{◌≡◌, refl, ap, sym, ◌∙◌}
use mathlib.Core.Bool.{true, ◌&&◌}
use mathlib.Core.List.{[], ◌∷◌, ◌++◌}
use Prim.Native.Nat.{ℕ, zero, suc, ◌+◌, ◌*◌, ◌/◌, ◌<◌, ◌≤◌}
use native.Mathlib.Omega.{arith}
use lib.Dec.{eqb, ltb}
use lib.ListN.{length, take, length-append}
use lib.Seq.{take_at, get_or-append_seam}
use borrow.Author.Tests.{eq-eqb, ne_eqb, lt-ltb, le-ltb}
use Rattle.forest.specs.Forest.{inside, outside, side}
use Rattle.rules.specs.Block.{Bytes, byte, every, zeros}
use Rattle.rules.specs.Packed.{digits_on, magnitude}
use Rattle.values.proofs.Digits.{further}

digits-least : (n : ℕ) (xs : Bytes) → n ≤ digits_on n xs
unfolding digits_on
digits-least n [] = omega arith
digits-least n (x ∷ []) = omega arith
digits-least n (x ∷ y ∷ ys) = let h = digits-least (further n x) (y ∷ ys) in omega arith

digits_last : (n k : ℕ) (xs : Bytes) → length xs ≡ suc k → 15 < byte xs k → 0 < digits_on n xs
unfolding digits_on
digits_last n k [] e l = absurd (omega arith)
digits_last n zero (x ∷ []) e l = omega arith
digits_last n zero (x ∷ y ∷ ys) e l = absurd (omega arith)
digits_last n (suc k) (x ∷ []) e l = absurd (omega arith)
digits_last n (suc k) (x ∷ y ∷ ys) e l = digits_last (further n x) k (y ∷ ys) (omega arith) l

digits-zero : (k : ℕ) (xs : Bytes) → length xs ≡ suc k → byte xs k ≤ 15 → zeros (take k xs) ≡ eqb (digits_on 0 xs) 0
unfolding digits_on zeros every
digits-zero k [] e l = absurd (omega arith)
digits-zero zero (x ∷ []) e l = sym (eq-eqb (10 * 0 + x / 16) 0 (omega arith))
digits-zero zero (x ∷ y ∷ ys) e l = absurd (omega arith)
digits-zero (suc k) (x ∷ []) e l = absurd (omega arith)
digits-zero (suc k) (x ∷ y ∷ ys) e l = elim (side 0 x) [
  | inside m ↦
      let h = digits-least (further 0 x) (y ∷ ys) in
      rw (every, ne_eqb x 0 (λ z. omega arith)) (sym (ne_eqb (digits_on (further 0 x) (y ∷ ys)) 0 (λ z. omega arith)))
  | outside m ↦
      let z : x ≡ 0 = omega arith in
      rw (z, every) (digits-zero k (y ∷ ys) (omega arith) l)
]

-- no byte is zero
pub zero_none : (b : Bytes) → length b ≡ 0 → true ≡ eqb (magnitude b) 0
unfolding magnitude digits_on
zero_none [] e = refl
zero_none (x ∷ xs) e = absurd (omega arith)

-- LAW: the last byte has no digit but 0, and those before it are zeros
pub zero_split : (b xs : Bytes) (z : ℕ) → b ≡ xs ++ z ∷ [] → eqb (magnitude b) 0 ≡ (ltb z 16 && zeros xs)
unfolding magnitude
zero_split b xs z e =
    let long : length (xs ++ z ∷ []) ≡ suc (length xs) = omega (arith, length-append xs (z ∷ [])) in
    let last : byte (xs ++ z ∷ []) (length xs) ≡ z = get_or-append_seam xs z [] 0 in
    let before : take (length xs) (xs ++ z ∷ []) ≡ xs = take_at xs (z ∷ []) (length xs) refl in
    ap (λ (t : Bytes). eqb (digits_on 0 t) 0) e
    ∙ elim (side z 16) [
      | inside l ↦ rw (lt-ltb z 16 l) (sym (digits-zero (length xs) (xs ++ z ∷ []) long (omega arith)) ∙ ap zeros before)
      | outside l ↦
          let h = digits_last 0 (length xs) (xs ++ z ∷ []) long (omega arith) in
          rw (le-ltb z 16 l) (ne_eqb (digits_on 0 (xs ++ z ∷ [])) 0 (λ q. omega arith))
    ]
