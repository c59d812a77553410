-- What holds of each of a row, one at a time; of each number of a range. Assumes nothing.
use mathlib.Core.Path.{◌≡◌, refl, ap, sym, ◌∙◌}
use mathlib.Core.Bool.{Bool, true, false, ◌&&◌}
use mathlib.Core.List.{List, [], ◌∷◌, ◌++◌, map}
use Prim.Native.Nat.{ℕ, zero, suc, ◌+◌, ◌<◌, ◌≤◌}
use native.Mathlib.Omega.{arith}
use lib.ListN.{length, get_or, replicate}
use Rattle.terms.specs.Choice.{pick}
use Rattle.forest.specs.Forest.{inside, outside, side}
use Rattle.forest.specs.Good.{on, off, is, both_left, both_right}
use Rattle.forest.specs.Numbers.{range}
use Rattle.rules.specs.Block.{every, zeros}

-- one that passes leaves it to the rest, and one that does not decides
module _ {A : Type 0} (p : A → Bool) (x : A) (xs : List A) where
  pub every_in : p x ≡ true → every p (x ∷ xs) ≡ every p xs
  unfolding every
  every_in h = rw (every, h)

  pub every-out : p x ≡ false → every p (x ∷ xs) ≡ false
  unfolding every
  every-out h = rw (every, h)

-- two stretches, and a row that was changed where the test does not look
module _ {A : Type 0} (p : A → Bool) where
  pub every-cons : (x : A) (xs : List A) → every p (x ∷ xs) ≡ (p x && every p xs)
  every-cons x xs = elim (is (p x)) [
    | on e ↦ rw (every_in p x xs e, e)
    | off e ↦ rw (every-out p x xs e, e)
  ]

  pub every_append : (xs ys : List A) → every p (xs ++ ys) ≡ (every p xs && every p ys)
  unfolding every
  every_append [] ys = refl
  every_append (x ∷ xs) ys = elim (is (p x)) [
    | on e ↦ rw (every_in p x (xs ++ ys) e, every_in p x xs e) (every_append xs ys)
    | off e ↦ rw (every-out p x (xs ++ ys) e, every-out p x xs e)
  ]

  pub every_map : (f : A → A) (xs : List A) → ((x : A) → p (f x) ≡ p x) → every p (map f xs) ≡ every p xs
  unfolding every
  every_map f [] h = refl
  every_map f (x ∷ xs) h = elim (is (p x)) [
    | on e ↦ rw (every_in p (f x) (map f xs) (h x ∙ e), every_in p x xs e) (every_map f xs h)
    | off e ↦ rw (every-out p (f x) (map f xs) (h x ∙ e), every-out p x xs e)
  ]

-- what holds of each holds of one, by its place in the row
pub every-get_d : {A : Type 0} (p : A → Bool) (xs : List A) (i : ℕ) (d : A) → every p xs ≡ true → i < length xs → p (get_or xs i d) ≡ true
every-get_d p [] i d e h = absurd (omega arith)
every-get_d p (x ∷ xs) zero d e h = both_left (p x) (every p xs) (sym (every-cons p x xs) ∙ e)
every-get_d p (x ∷ xs) (suc i) d e h = every-get_d p xs i d (both_right (p x) (every p xs) (sym (every-cons p x xs) ∙ e)) (omega arith)

-- what holds of each number of a range holds of one
pub every-at : (p : ℕ → Bool) (i n u : ℕ) → every p (range i n) ≡ true → i ≤ u → u < i + n → p u ≡ true
every-at p i zero u e a b = absurd (omega arith)
every-at p i (suc n) u e a b = elim (is (p i)) [
  | on h ↦ elim (side u (suc i)) [
    | inside l ↦ (let z : u ≡ i = omega arith in rw z h)
    | outside l ↦ every-at p (suc i) n u (sym (every_in p i (range (suc i) n) h) ∙ e) (omega arith) (omega arith)
  ]
  | off h ↦
      absurd (let z : false ≡ true = sym (every-out p i (range (suc i) n) h) ∙ e in let y : ◌≡◌ {A = ℕ} 0 1 = ap (λ (b : Bool). pick b 1 0) z in omega arith)
]

-- zeros in a row
pub zeros-row : (n : ℕ) → zeros (replicate n 0) ≡ true
unfolding zeros every
zeros-row zero = refl
zeros-row (suc n) = zeros-row n
