-- The numbers of a stretch that pass a test: the first of them, and the rest; two stretches; two tests that agree. Assumes nothing.
use mathlib.Core.Path.{◌≡◌, refl, ap, sym, ◌∙◌}
use mathlib.Core.Bool.{Bool, true, false}
use mathlib.Core.List.{List, [], ◌∷◌, ◌++◌}
use Prim.Native.Nat.{ℕ, zero, suc, ◌+◌, ◌-◌, ◌<◌, ◌≤◌}
use native.Mathlib.Omega.{arith}
use Rattle.forest.specs.Forest.{inside, outside, side}
use Rattle.forest.specs.Good.{on, off, is}
use Rattle.forest.specs.Numbers.{range}
use Rattle.report_loops.specs.Plain.{filter}
use Rattle.report_loops.specs.Demand3.{AllAbove, Ascending}

pub clash : (b : Bool) → b ≡ true → b ≡ false → ⊥
clash b x y = let z : ◌≡◌ {A = ℕ} 0 1 = cc in omega arith

module _ {A : Type 0} (t : A → Bool) where
  filter-in : (x : A) (xs : List A) → t x ≡ true → filter t (x ∷ xs) ≡ x ∷ filter t xs
  unfolding filter
  filter-in x xs e = rw (filter, e)

  filter-out : (x : A) (xs : List A) → t x ≡ false → filter t (x ∷ xs) ≡ filter t xs
  unfolding filter
  filter-out x xs e = rw (filter, e)

  filter-append : (xs ys : List A) → filter t (xs ++ ys) ≡ filter t xs ++ filter t ys
  unfolding filter
  filter-append [] ys = refl
  filter-append (x ∷ xs) ys = elim (is (t x)) [
    | on e ↦ rw (filter-in x (xs ++ ys) e, filter-in x xs e, filter-append xs ys)
    | off e ↦ rw (filter-out x (xs ++ ys) e, filter-out x xs e) (filter-append xs ys)
  ]

range_split : (i a b : ℕ) → range i (a + b) ≡ range i a ++ range (i + a) b
range_split i zero b = let e : 0 + b ≡ b = omega arith in let f : i + 0 ≡ i = omega arith in rw (e, f)
range_split i (suc a) b = let e : suc a + b ≡ suc (a + b) = omega arith in let f : suc i + a ≡ i + suc a = omega arith in rw (e, range_split (suc i) a b, f)

-- none of these numbers passes
abbrev pub Without : (ℕ → Bool) → ℕ → ℕ → Type 0
Without t i e = (m : ℕ) → i ≤ m → m < e → t m ≡ false

-- the numbers from i up to, and without, e that pass
abbrev pub hits : (ℕ → Bool) → ℕ → ℕ → List ℕ
hits t i e = filter t (range i (e - i))

module _ (t : ℕ → Bool) where
  pub hits-split : (i j e : ℕ) → i ≤ j → j ≤ e → hits t i e ≡ hits t i j ++ hits t j e
  hits-split i j e a b =
      let x : e - i ≡ (j - i) + (e - j) = omega arith in
      let y : i + (j - i) ≡ j = omega arith in
      rw (x, range_split i (j - i) (e - j), y, filter-append t (range i (j - i)) (range j (e - j)))

  none_from : (i k : ℕ) → Without t i (i + k) → filter t (range i k) ≡ []
  unfolding filter
  none_from i zero h = refl
  none_from i (suc k) h = filter-out t i (range (suc i) k) (h i (omega arith) (omega arith)) ∙ none_from (suc i) k (λ m a b. h m (omega arith) (omega arith))

  pub hits-none : (i e : ℕ) → Without t i e → hits t i e ≡ []
  hits-none i e h = none_from i (e - i) (λ m a b. h m a (omega arith))

  hits_at : (i e : ℕ) → i < e → t i ≡ true → hits t i e ≡ i ∷ hits t (suc i) e
  hits_at i e l h = let x : e - i ≡ suc (e - suc i) = omega arith in rw x (filter-in t i (range (suc i) (e - suc i)) h)

  -- a stretch may begin where none before it passes
  pub hits-from : (i j e : ℕ) → i ≤ j → j ≤ e → Without t i j → hits t i e ≡ hits t j e
  hits-from i j e a b h = rw (hits-split i j e a b, hits-none i j h)

  pub hits-first : (i j e : ℕ) → i ≤ j → j < e → t j ≡ true → Without t i j → hits t i e ≡ j ∷ hits t (suc j) e
  hits-first i j e a b s h = hits-from i j e a (omega arith) h ∙ hits_at j e b s

  -- one passes first, or none does
  pub data First (i e : ℕ) : Type 0 where
    nothing : Without t i e → First i e
    found : (j : ℕ) → i ≤ j → j < e → t j ≡ true → Without t i j → First i e

  not_yet : (i b : ℕ) → t i ≡ false → Without t (suc i) b → Without t i b
  not_yet i b e h m x y = elim (side i m) [
    | inside l ↦ h m l y
    | outside l ↦ (let z : m ≡ i = omega arith in rw z e)
  ]

  first-from : (k i e : ℕ) → e - i ≡ k → First i e
  first-from zero i e q = nothing (λ m a b. absurd (omega arith))
  first-from (suc k) i e q = elim (is (t i)) [
    | on h ↦ found i (omega arith) (omega arith) h (λ m a b. absurd (omega arith))
    | off h ↦ elim (first-from k (suc i) e (omega arith)) [
      | nothing g ↦ nothing (not_yet i e h g)
      | found j a b s g ↦ found j (omega arith) b s (not_yet i j h g)
    ]
  ]

  pub first : (i e : ℕ) → First i e
  first i e = first-from (e - i) i e refl

  -- read from first to last, each number comes once
  above-range : (k i j : ℕ) → j < i → AllAbove j (filter t (range i k))
  unfolding filter
  above-range zero i j l = tt
  above-range (suc k) i j l = elim (is (t i)) [
    | on e ↦ rw (filter-in t i (range (suc i) k) e) (l, above-range k (suc i) j (omega arith))
    | off e ↦ rw (filter-out t i (range (suc i) k) e) (above-range k (suc i) j (omega arith))
  ]

  pub ascending-range : (k i : ℕ) → Ascending (filter t (range i k))
  unfolding filter
  ascending-range zero i = tt
  ascending-range (suc k) i = elim (is (t i)) [
    | on e ↦ rw (filter-in t i (range (suc i) k) e) (above-range k (suc i) i (omega arith), ascending-range k (suc i))
    | off e ↦ rw (filter-out t i (range (suc i) k) e) (ascending-range k (suc i))
  ]

same_from : (t u : ℕ → Bool) (k i : ℕ) → ((m : ℕ) → i ≤ m → m < i + k → t m ≡ u m) → filter t (range i k) ≡ filter u (range i k)
unfolding filter
same_from t u zero i h = refl
same_from t u (suc k) i h =
    let f : filter t (range (suc i) k) ≡ filter u (range (suc i) k) = same_from t u k (suc i) (λ m a b. h m (omega arith) (omega arith)) in
    let q : t i ≡ u i = h i (omega arith) (omega arith) in
    elim (is (u i)) [
      | on x ↦ filter-in t i (range (suc i) k) (q ∙ x) ∙ ap (◌∷◌ i) f ∙ sym (filter-in u i (range (suc i) k) x)
      | off x ↦ filter-out t i (range (suc i) k) (q ∙ x) ∙ f ∙ sym (filter-out u i (range (suc i) k) x)
    ]

pub hits-same : (t u : ℕ → Bool) (i e : ℕ) → ((m : ℕ) → i ≤ m → m < e → t m ≡ u m) → hits t i e ≡ hits u i e
hits-same t u i e h = same_from t u (e - i) i (λ m a b. h m a (omega arith))
