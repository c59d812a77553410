-- What rests on a child being deeper than its parent: the test on the cells and the well-formedness of their forest are the same.
-- Assumes nothing.
use Rattle.std.specs.Prelude.{◌≡◌, Bool, length, None}
use Rattle.std.proofs.Math.Path.{ap, sym, subst}
use Rattle.std.proofs.Common.{◌∙◌}
use Rattle.std.proofs.Math.Bool.{true}
use mathlib.Core.List.{List, [], ◌++◌, append-nil}
use Prim.Native.Nat.{ℕ, suc, ◌<◌}
use native.Mathlib.Omega.{arith}
use Rattle.forest.specs.Forest.{cells_of, forest_of}
use Rattle.forest.proofs.Forest.{cells-forest}
use Rattle.forest.specs.Shape.{shape-levelled}
use Rattle.forest.proofs.Shape.{forest-cells}
use Rattle.forest.specs.Good.{is, nil-of, Wf, formed, formed-wf, wf-formed, read, good, sound, complete, lev, levelled, on, off}

module _ {A : Type 0} (typ : A → ℕ) (fit : ℕ → A → Bool) (ok : A → A → Bool) where
  module _ (rise : (p : ℕ) (c : A) → fit p c ≡ true → p < typ c) (one : (p q : ℕ) (c : A) → fit p c ≡ true → fit q c ≡ true → p ≡ q) where
    module _ (rank : ℕ → ℕ) (deeper : (p : ℕ) (c : A) → fit p c ≡ true → rank (typ c) ≡ suc (rank p)) where
      -- LAW 10: the test on the cells and the well-formedness of their forest are the same
      pub good-wf : (cs : List A) → good typ fit ok cs ≡ true → Wf typ fit ok 0 (forest_of (lev typ fit ok rise one rank deeper) cs)
      unfolding good
      good-wf cs e =
          let i = sound typ fit ok (length cs) 0 None cs in
          let r : read typ fit ok (length cs) 0 None cs ≡ [] = nil-of (read typ fit ok (length cs) 0 None cs) e in
          let c : cells_of i.0 ≡ cs = sym (append-nil (cells_of i.0)) ∙ (rw r at i.3) in
          let g : forest_of (lev typ fit ok rise one rank deeper) (cells_of i.0) ≡ i.0 = forest-cells (lev typ fit ok rise one rank deeper) i.0 (shape-levelled (lev typ fit ok rise one rank deeper) (suc (rank 0)) i.0 (levelled typ fit ok rise one rank deeper 0 i.0 i.1)) in
          subst (Wf typ fit ok 0) (sym g ∙ ap (forest_of (lev typ fit ok rise one rank deeper)) c) i.1

      pub wf-good : (cs : List A) → Wf typ fit ok 0 (forest_of (lev typ fit ok rise one rank deeper) cs) → good typ fit ok cs ≡ true
      unfolding good
      wf-good cs w =
          let e : cells_of (forest_of (lev typ fit ok rise one rank deeper) cs) ++ [] ≡ cs = append-nil (cells_of (forest_of (lev typ fit ok rise one rank deeper) cs)) ∙ cells-forest (lev typ fit ok rise one rank deeper) cs in
          let r : read typ fit ok (length cs) 0 None (cells_of (forest_of (lev typ fit ok rise one rank deeper) cs) ++ []) ≡ [] = complete typ fit ok rise one (length cs) 0 None (forest_of (lev typ fit ok rise one rank deeper) cs) [] (rw cells-forest (omega arith)) w tt tt in
          rw (rw e at r)

      -- so the test on the forest and the reader of the cells give the same answer
      pub formed-good : (cs : List A) → formed typ fit ok 0 (forest_of (lev typ fit ok rise one rank deeper) cs) ≡ good typ fit ok cs
      formed-good cs = elim (is (good typ fit ok cs)) [
        | on e ↦ rw e (wf-formed typ fit ok 0 (forest_of (lev typ fit ok rise one rank deeper) cs) (good-wf cs e))
        | off e ↦ rw e (elim (is (formed typ fit ok 0 (forest_of (lev typ fit ok rise one rank deeper) cs))) [
          | on h ↦ h ∙ sym (wf-good cs (formed-wf typ fit ok 0 (forest_of (lev typ fit ok rise one rank deeper) cs) h)) ∙ e
          | off h ↦ h
        ])
      ]
