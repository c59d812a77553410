-- Entries of w bytes that stand in a row from byte i on, one by one. Assumes nothing.
use mathlib.Core.Path.{◌≡◌, refl, ap, ◌∙◌}
use mathlib.Core.List.{[], ◌∷◌}
use Prim.Native.Nat.{ℕ, suc, ◌+◌, ◌-◌, ◌*◌, ◌<◌, ◌≤◌}
use native.Mathlib.Omega.{arith}
use Rattle.rules.specs.Block.{Bytes, part}
use Rattle.statements.specs.Draft.{rows}

-- none, and one more, by the definition
pub rows-zero : (w : ℕ) (b : Bytes) (i : ℕ) → rows w b i 0 ≡ []
unfolding rows
rows-zero w b i = refl

pub rows-suc : (w : ℕ) (b : Bytes) (i n : ℕ) → rows w b i (suc n) ≡ part b i w ∷ rows w b (i + w) n
unfolding rows
rows-suc w b i n = refl

-- from place i on, as a loop has it: nothing is left, or the entry at i before those from i + 1 on
module _ (w : ℕ) (b : Bytes) (i n : ℕ) where
  pub rows_end : n ≤ i → rows w b (w * i) (n - i) ≡ []
  rows_end h = let z : n - i ≡ 0 = omega arith in ap (rows w b (w * i)) z ∙ rows-zero w b (w * i)

  pub rows_next : i < n → rows w b (w * i) (n - i) ≡ part b (w * i) w ∷ rows w b (w * (i + 1)) (n - (i + 1))
  rows_next h =
      let z : n - i ≡ suc (n - (i + 1)) = omega arith in
      let y : w * i + w ≡ w * (i + 1) = omega arith in
      ap (rows w b (w * i)) z ∙ rows-suc w b (w * i) (n - (i + 1)) ∙ ap (λ (a : ℕ). part b (w * i) w ∷ rows w b a (n - (i + 1))) y
