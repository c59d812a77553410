-- What `a..b` and `a..=b` give, in the words of the rules. Assumes nothing.
use mathlib.Core.Path.{◌≡◌, refl, sym, ap, ap₂, ◌∙◌}
use mathlib.Core.Bool.{true, false}
use mathlib.Core.List.{List, ◌∷◌}
use Prim.Native.Nat.{ℕ, zero, suc, ◌+◌, ◌-◌}
use native.Mathlib.Omega.{arith}
use lib.ListN.{length}
use Rattle.std.specs.declared.ops.RangeInclusive.{RangeInclusive}
use Rattle.std.specs.declared.option.Option.{Option}
use Rattle.std.specs.declared.option.Option.TheVariants.{Some}
use Rattle.std.proofs.iter.Yields.{listed}
use Rattle.std.specs.List.{range_with_len}
use Rattle.std.specs.Range.{range_inclusive_start, range_inclusive_end, range_inclusive_exhausted}
use Rattle.std.specs.Range.{range_inclusive_len, range_inclusive_left, range_inclusive_steps}
use Rattle.std.proofs.lemmas.Iterator.{YieldsList}
use Rattle.forest.specs.Good.{on, off, is}
use Rattle.forest.specs.Numbers.{range}

pub range_with_len-range : (a n : ℕ) → range_with_len a n ≡ range a n
range_with_len-range a zero = refl
range_with_len-range a (suc n) = let z : a + 1 ≡ suc a = omega arith in ap (λ (xs : List ℕ). a ∷ xs) (rw z (range_with_len-range (suc a) n))

-- what `a..=b` gives, number by number
abbrev pub upwards : RangeInclusive ℕ → Option ℕ → RangeInclusive ℕ → Type 0
upwards = range_inclusive_steps (λ x y. y - x) (λ x y. y ≡ x + 1)

abbrev left : RangeInclusive ℕ → ℕ
left = range_inclusive_left (λ x y. y - x)

abbrev numbers : RangeInclusive ℕ → List ℕ
numbers s = range (range_inclusive_start s) (left s)

none-left : (s : RangeInclusive ℕ) → range_inclusive_exhausted s ≡ true → left s ≡ 0
none-left s e = ap (range_inclusive_len (λ x y. y - x) (range_inclusive_start s) (range_inclusive_end s)) e

all-left : (s : RangeInclusive ℕ) → range_inclusive_exhausted s ≡ false → left s ≡ range_inclusive_end s + 1 - range_inclusive_start s
all-left s e = omega (arith, ap (range_inclusive_len (λ x y. y - x) (range_inclusive_start s) (range_inclusive_end s)) e)

next-of : (a b n : ℕ) → n ≡ 0 → range a n ≡ range b n
next-of a b n e = rw e

one-more : (s : RangeInclusive ℕ) (x : ℕ) (t : RangeInclusive ℕ) → upwards s (Some x) t → numbers s ≡ x ∷ numbers t
one-more s x t p =
    let n : left s ≡ suc (left t) = omega (arith, p.1.1) in
    ap (range (range_inclusive_start s)) n ∙ ap₂ (λ (y : ℕ) (ys : List ℕ). y ∷ ys) (sym p.1.0) (elim (is (range_inclusive_exhausted t)) [
      | on h ↦ next-of (suc (range_inclusive_start s)) (range_inclusive_start t) (left t) (none-left t h)
      | off h ↦ ap (λ (a : ℕ). range a (left t)) (omega (arith, p.1.2 h))
    ])

pub YieldsList-from_range_inclusive : (s : RangeInclusive ℕ) (a b n : ℕ) → range_inclusive_start s ≡ a → range_inclusive_end s ≡ b
    → range_inclusive_exhausted s ≡ false → b + 1 - a ≡ n → YieldsList upwards (λ x. x) s (range a n)
YieldsList-from_range_inclusive s a b n start end fresh long =
    let z : numbers s ≡ range a n = rw (all-left s fresh, start, end, long) in
    rw (← z) (record { runs = listed upwards (λ x. x) numbers (λ s t p. ap (λ n. length (range (range_inclusive_start s) n)) p.1.0) one-more s })
