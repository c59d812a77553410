-- What `all` answers over the bytes of a slice, or over the numbers of a range: whether each one passes the test. Assumes nothing.
use mathlib.Core.Path.{◌≡◌, refl, sym, ap, ◌∙◌}
use mathlib.Core.Bool.{Bool, false, ◌&&◌}
use mathlib.Core.List.{List, [], ◌∷◌}
use Prim.Native.Nat.{ℕ, ◌+◌, ◌-◌}
use native.Mathlib.Omega.{arith}
use denote.Param.Members.{Mut}
use denote.Ref.{Bor}
use Rattle.std.specs.declared.ops.Range.{Range}
use Rattle.std.specs.declared.ops.RangeInclusive.{RangeInclusive}
use Rattle.std.specs.declared.slice.Iter.{Iter}
use Rattle.std.proofs.iter.Yields.{fronts, nat_range_steps}
use Rattle.std.specs.Fn.{Called}
use Rattle.std.specs.Iterator.{ChecksAll}
use Rattle.std.specs.List.{list_all, range_with_len}
use Rattle.std.specs.Range.{range_inclusive_start, range_inclusive_end, range_inclusive_exhausted}
use Rattle.std.specs.Slice.Iter.{iter_rest}
use Rattle.std.proofs.lemmas.Iterator.{YieldsList-from_slice, YieldsList-from_range}
use Rattle.std.proofs.lemmas.Iterator.Search.{all_from_yields_List}
use Rattle.forest.specs.Numbers.{range}
use Rattle.rules.specs.Block.{every}
use Rattle.rules.proofs.Every.{every-cons}
use Rattle.blocks.proofs.Given.{range_with_len-range, upwards, YieldsList-from_range_inclusive}

-- std's words and those of the rules
pub list_all-every : {A : Type 0} (p : A → Bool) (xs : List A) → list_all p xs ≡ every p xs
unfolding every
list_all-every p [] = refl
list_all-every p (x ∷ xs) = ap (λ (b : Bool). p x && b) (list_all-every p xs) ∙ sym (every-cons p x xs)

module _ (p : ℕ → Bool) {F : Type 0} {f : F} {r : Bool} where
  -- `b.iter().all(..)`
  pub all-slice : {g : Mut F (Bor ℕ × Unit {0}) Bool} {s u : Iter ℕ} {b : List ℕ} → iter_rest s ≡ b → ChecksAll fronts g s f r u
      → ((x : Bor ℕ) (c : Bool) (q : F) → Called g f (x, tt) c q → (q ≡ f) × (c ≡ p x.now)) → r ≡ every p b
  all-slice {u = u} {b = b} e ran k = all_from_yields_List p u f r ran (YieldsList-from_slice b e) k ∙ list_all-every p b

  module _ {g : Mut F (ℕ × Unit {0}) Bool} where
    -- `(a..b).all(..)`
    pub all-range : {s u : Range ℕ} (a b n : ℕ) → s ≡ record { start = a; end = b } → b - a ≡ n → ChecksAll nat_range_steps g s f r u
        → ((x : ℕ) (c : Bool) (q : F) → Called g f (x, tt) c q → (q ≡ f) × (c ≡ p x)) → r ≡ every p (range a n)
    all-range {u = u} a b n is long ran k =
        all_from_yields_List p u f r ran (YieldsList-from_range a b n is long) k ∙ list_all-every p (range_with_len a n)
        ∙ ap (every p) (range_with_len-range a n)

    -- `(1..=n).all(..)`
    pub all-range_inclusive : {s u : RangeInclusive ℕ} {n : ℕ} → range_inclusive_start s ≡ 1 → range_inclusive_end s ≡ n → range_inclusive_exhausted s ≡ false
        → ChecksAll upwards g s f r u → ((x : ℕ) (c : Bool) (q : F) → Called g f (x, tt) c q → (q ≡ f) × (c ≡ p x)) → r ≡ every p (range 1 n)
    all-range_inclusive {s = s} {u = u} {n = n} start end fresh ran k =
        all_from_yields_List p u f r ran (YieldsList-from_range_inclusive s 1 n (n + 1 - 1) start end fresh refl) k
        ∙ list_all-every p (range 1 (n + 1 - 1)) ∙ ap (λ (m : ℕ). every p (range 1 m)) (omega arith)
