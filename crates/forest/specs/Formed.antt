-- Well-formed rows, cell by cell: two tests of siblings that agree where a cell fits are one, and what holds wherever a cell fits holds of all cells.
-- Assumes nothing.
use Rattle.std.specs.Prelude.{◌≡◌, Bool, true, List, [], ◌∷◌, ◌++◌, ℕ}
use Rattle.std.proofs.Math.Path.{refl}
use Rattle.forest.specs.Forest.{Forest, void, node, cells_of}
use Rattle.forest.specs.Good.{on, off, is, Wf, next, formed, formed-wf}

module _ {A : Type 0} (typ : A → ℕ) (fit : ℕ → A → Bool) (ok : A → A → Bool) where
  -- two tests of siblings that agree behind every cell that fits are one to a row
  module _ (ok' : A → A → Bool) (alike : (p : ℕ) (c d : A) → fit p c ≡ true → ok c d ≡ ok' c d) where
    next-alike : (p : ℕ) (c : A) (f : Forest A) → fit p c ≡ true → next typ fit ok c f ≡ next typ fit ok' c f
    next-alike p c void e = refl
    next-alike p c (node d k s) e = alike p c d e

    pub formed-alike : (p : ℕ) (f : Forest A) → formed typ fit ok p f ≡ formed typ fit ok' p f
    unfolding formed
    formed-alike p void = refl
    formed-alike p (node c k s) = elim (is (fit p c)) [
      | on e ↦ rw (e, next-alike p c s e, formed-alike (typ c) k, formed-alike p s)
      | off e ↦ rw e
    ]

  -- what holds of no cells, and of a cell that fits before two stretches of which it holds, holds of the cells of a well-formed row
  module _ (Q : List A → Type 0) (none : Q []) (more : (p : ℕ) (c : A) (xs ys : List A) → fit p c ≡ true → Q xs → Q ys → Q (c ∷ xs ++ ys)) where
    wf-cells : (p : ℕ) (f : Forest A) → Wf typ fit ok p f → Q (cells_of f)
    wf-cells p void w = none
    wf-cells p (node c k s) w = more p c (cells_of k) (cells_of s) w.0 (wf-cells (typ c) k w.2) (wf-cells p s w.3)

    pub formed-cells : (p : ℕ) (f : Forest A) → formed typ fit ok p f ≡ true → Q (cells_of f)
    formed-cells p f e = wf-cells p f (formed-wf typ fit ok p f e)
