-- What rests on a child being deeper than its parent: the rows of the forest of the numbers.
-- Assumes nothing.
use Rattle.std.proofs.Math.Path.{◌≡◌}
use Rattle.std.specs.Prelude.{refl, Bool, take, drop, get_or}
use Rattle.std.proofs.Common.{ap, sym, ◌∙◌, drop_of_length-le, drop-cons}
use mathlib.Core.List.{List, [], ◌∷◌, reverse_aux}
use Prim.Native.Nat.{ℕ, zero, suc, ◌+◌, ◌<◌, ◌≤◌}
use native.Mathlib.Omega.{arith}
use Rattle.std.proofs.Math.ListN.{length}
use Rattle.std.proofs.lemmas.List.{length-map}
use Rattle.forest.specs.Forest.{Forest, forest_of}
use Rattle.forest.proofs.Forest.{cells-forest}
use Rattle.forest.specs.Rows.{rows, first, rows-first}
use Rattle.forest.proofs.Rows.{rows_back}
use Rattle.forest.specs.Good.{on, off, is}
use Rattle.forest.specs.Numbers.{range, down_to, length-range, get_d-range, ancestors, first_row, seek_from}

reverse-range : (i s : ℕ) (r : List ℕ) → (n : ℕ) → i ≤ n → r ≡ down_to s → reverse_aux (take i (range s n)) r ≡ down_to (s + i)
reverse-range zero s r n l e = let q : s ≡ s + 0 = omega arith in e ∙ ap down_to q
reverse-range (suc i) s r zero l e = absurd (omega arith)
reverse-range (suc i) s r (suc n) l e = reverse-range i (suc s) (s ∷ r) n (omega arith) (ap (◌∷◌ s) e) ∙ (let q : suc s + i ≡ s + suc i = omega arith in ap down_to q)

module _ (lev : ℕ → ℕ) where
  -- LAW 15: the row of cell i in the forest of the numbers
  pub row_number : (n i : ℕ) → i < n → get_or (rows [] (forest_of lev (range 0 n))) i [] ≡ i ∷ ancestors lev i
  row_number n i l =
      let e : get_or (range 0 n) i 0 ≡ i = get_d-range 0 n i 0 l ∙ omega arith in
      let d : reverse_aux (take i (range 0 n)) [] ≡ down_to i = reverse-range i 0 [] n (omega arith) refl ∙ (let q : 0 + i ≡ i = omega arith in ap down_to q) in
      rw (rows_back lev 0 i (range 0 n) (rw length-range l), e, d)

  pub length-rows : (n : ℕ) → length (rows [] (forest_of lev (range 0 n))) ≡ n
  length-rows n =
      let F : Forest ℕ = forest_of lev (range 0 n) in
      sym (length-map (rows [] F) (first 0)) ∙ ap length (rows-first 0 [] F ∙ cells-forest lev (range 0 n)) ∙ length-range 0 n

module _ (lev : ℕ → ℕ) (t : List ℕ → Bool) where
  -- LAW 19: a search in the order of the tree is a search in the order of the cells
  pub seek-rows : (n i k : ℕ) → i + k ≡ n → first_row t i (drop i (rows [] (forest_of lev (range 0 n)))) ≡ seek_from lev t i k
  unfolding first_row seek_from
  seek-rows n i zero e =
      let R : List (List ℕ) = rows [] (forest_of lev (range 0 n)) in
      let l : length R ≤ i = rw (length-rows lev n) (omega arith) in
      rw (drop_of_length-le R l)
  seek-rows n i (suc k) e =
      let R : List (List ℕ) = rows [] (forest_of lev (range 0 n)) in
      let l : i < length R = rw (length-rows lev n) (omega arith) in
      rw (drop-cons R i [] l, row_number lev n i (omega arith)) (elim (is (t (i ∷ ancestors lev i))) [
        | on h ↦ rw (first_row, seek_from, h)
        | off h ↦ rw (first_row, seek_from, h) (seek-rows n (suc i) k (omega arith))
      ])
