-- What rests on a child being deeper than its parent: every listing is the listing of its forest.
-- Assumes nothing.
use Rattle.std.specs.Prelude.{◌≡◌, ℕ}
use Rattle.std.proofs.Math.Path.{refl}
use mathlib.Core.List.{List, [], ◌∷◌, ◌++◌, append_assoc}
use Rattle.forest.specs.Forest.{Forest, cells_of, side, deep, rest, forest_of, deep_in, deep_out, rest_in, rest_out, void, node, inside, outside}

module _ {A : Type 0} (lev : A → ℕ) where
  -- the two parts are the whole
  pub deep-rest : (n : ℕ) (f : Forest A) → cells_of (deep lev n f) ++ cells_of (rest lev n f) ≡ cells_of f
  unfolding deep rest
  deep-rest n void = refl
  deep-rest n (node c k s) = elim (side n (lev c)) [
    | inside h ↦ rw (deep_in, rest_in, append_assoc (cells_of k) (cells_of (deep lev n s)) (cells_of (rest lev n s)), deep-rest n s)
    | outside h ↦ rw (deep_out, rest_out)
  ]

  -- LAW 1: every listing is the listing of its forest
  pub cells-forest : (cs : List A) → cells_of (forest_of lev cs) ≡ cs
  unfolding forest_of
  cells-forest [] = refl
  cells-forest (c ∷ cs) = rw (deep-rest, cells-forest cs)
