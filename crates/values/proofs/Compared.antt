-- Two numbers of one length, as the code takes them apart: all bytes but the last, then the last. Assumes nothing.
use Rattle.std.specs.declared.cmp.Ordering.{Ordering}
use Rattle.std.specs.declared.cmp.Ordering.TheVariants.{Equal, Greater, Less}
use mathlib.Core.Path.{◌≡◌, refl, sym, ◌∙◌}
use mathlib.Core.List.{[], ◌∷◌, ◌++◌}
use Prim.Native.Nat.{ℕ, suc, ◌/◌}
use native.Mathlib.Omega.{arith}
use lib.ListN.{length, take, length-append}
use lib.Seq.{take_at, get_or-append_seam}
use Rattle.rules.specs.Block.{Bytes, byte}
use Rattle.rules.specs.Order.{order}
use Rattle.rules.specs.Packed.{magnitude, number_order}
use Rattle.values.specs.Lent.{Numbers}
use Rattle.values.proofs.Number.{some_bytes}
use Rattle.values.proofs.Digits.{and_then, digits-order}

-- LAW: what the bytes before the last say, o, decides, then the digit in the last
pub by_front : (a b xs ys : Bytes) (x y : ℕ) (o : Ordering) → o ≡ order xs ys → a ≡ xs ++ x ∷ [] → b ≡ ys ++ y ∷ [] → length a ≡ length b → Numbers a b
    → and_then o (number_order (x / 16) (y / 16)) ≡ number_order (magnitude a) (magnitude b)
unfolding magnitude
by_front a b xs ys x y o is e f l h =
    let k : ℕ = length xs in
    let m : length a ≡ suc k = rw e (omega (arith, length-append xs (x ∷ []))) in
    let n : length ys ≡ k = (let q : length b ≡ suc (length ys) = rw f (omega (arith, length-append ys (y ∷ []))) in omega arith) in
    let v : take k a ≡ xs = rw e (take_at xs (x ∷ []) k refl) in
    let w : take k b ≡ ys = rw f (take_at ys (y ∷ []) k n) in
    let s : byte a k ≡ x = rw e (get_or-append_seam xs x [] 0) in
    let t : byte b k ≡ y = rw (f, ← n) (get_or-append_seam ys y [] 0) in
    let d = digits-order 0 k a b m (sym l ∙ m) h.first h.second in
    rw is (rw (v, w, s, t) at d)

-- no number is empty
pub no_digits : (a b : Bytes) (o : Ordering) → length a ≡ 0 → Numbers a b → o ≡ number_order (magnitude a) (magnitude b)
no_digits a b o l h = absurd (some_bytes a h.first l)

-- the last digits are asked only where the rest is equal
pub first_decides : (o p : Ordering) → (o ≡ Equal → ⊥) → o ≡ and_then o p
first_decides Less p n = refl
first_decides Equal p n = absurd (n refl)
first_decides Greater p n = refl
