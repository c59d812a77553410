-- Rows of ancestors where no cell is more than one level deeper than the cell before it. Assumes nothing.
use mathlib.Core.Path.{◌≡◌, refl, ap, ◌∙◌}
use mathlib.Core.List.{[], ◌∷◌}
use mathlib.Core.Logic.{◌⊎◌, inl, inr}
use Prim.Native.Nat.{ℕ, zero, suc, ◌<◌, ◌≤◌}
use native.Mathlib.Omega.{arith}
use lib.ListN.{length}
use Rattle.forest.specs.Forest.{inside, outside, side}
use Rattle.forest.specs.Rows.{back, back_in, back-out}
use Rattle.forest.specs.Numbers.{down_to, ancestors}

module _ (lev : ℕ → ℕ) where
  -- the greatest level that cell i can have
  abbrev pub deepest : ℕ → ℕ
  deepest zero = 1
  deepest (suc i) = suc (lev i)

  -- of each of the first n cells
  abbrev pub Regular : ℕ → Type 0
  Regular n = (i : ℕ) → i < n → (1 ≤ lev i) × (lev i ≤ deepest i)

  -- the nearest cell of smaller level, and on from there
  pub back-parts : (m j : ℕ) → (back lev m (down_to j) ≡ []) ⊎ ((p : ℕ) × (p < j) × (lev p < m) × (back lev m (down_to j) ≡ p ∷ ancestors lev p))
  unfolding back
  back-parts m zero = inl refl
  back-parts m (suc j) = elim (side (lev j) m) [
    | inside l ↦ inr (j, omega arith, l, back_in lev m j (down_to j) l)
    | outside l ↦ elim (back-parts m j) [
      | inl e ↦ inl (back-out lev m j (down_to j) l ∙ e)
      | inr r ↦ inr (r.0, omega (arith, r.1), r.2, back-out lev m j (down_to j) l ∙ r.3)
    ]
  ]

  -- as many cells as levels above
  pub length_back : (n : ℕ) → Regular n → (j m : ℕ) → j ≤ n → 1 ≤ m → m ≤ deepest j → suc (length (back lev m (down_to j))) ≡ m
  unfolding back
  length_back n r zero m h a b = omega arith
  length_back n r (suc j) m h a b = elim (side (lev j) m) [
    | inside l ↦
        let g = r j (omega arith) in
        omega (arith, ap length (back_in lev m j (down_to j) l), length_back n r j (lev j) (omega arith) g.0 g.1)
    | outside l ↦
        let g = r j (omega arith) in
        omega (arith, ap length (back-out lev m j (down_to j) l), length_back n r j m (omega arith) a (omega (arith, g.1)))
  ]
