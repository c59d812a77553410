-- What rests on a child being deeper than its parent: a leaf put among the children of a segment is one cell put among the cells.
-- Assumes nothing.
use Rattle.std.specs.Prelude.{◌≡◌, Bool, ℕ, suc, ◌+◌, ◌<◌, length, take, drop, get_or}
use Rattle.std.proofs.Math.Path.{refl, sym}
use Rattle.std.proofs.Common.{ap, ◌∙◌, arith, take-suc, drop-drop}
use mathlib.Core.List.{List, [], ◌∷◌, ◌++◌, append_assoc, append-nil}
use Rattle.forest.specs.Forest.{Forest, void, node, cells_of, forest_of, rest}
use Rattle.forest.proofs.Forest.{cells-forest}
use Rattle.forest.specs.Shape.{Levelled, TopAtMost, top-rest, shape-levelled}
use Rattle.forest.proofs.Shape.{forest-cells}
use Rattle.forest.specs.Edit.{kids}
use Rattle.forest.specs.Runs.{under, run_len, levelled-kids, levelled-edit}
use Rattle.forest.proofs.Runs.{edit-forest, tail-split, past-run}
use Rattle.forest.specs.Good.{on, off, is}
use Rattle.forest.specs.Insert.{graft, place, graft-in, graft-out, Low, cells-graft, insert_under}

module _ {A : Type 0} (lev : A → ℕ) (x : A) (stop : A → Bool) where
  levelled-graft : (f : Forest A) → Levelled lev (lev x) f → Levelled lev (lev x) (graft lev x stop f)
  unfolding graft
  levelled-graft void a = (refl, tt, tt)
  levelled-graft (node c k s) a = elim (is (stop c)) [
    | on e ↦ rw (graft-out lev x stop c k s e) (refl, tt, a)
    | off e ↦ rw (graft-in lev x stop c k s e) (a.0, a.1, levelled-graft s a.2)
  ]

  low-rest : (n : ℕ) (f : Forest A) → TopAtMost lev n f → n < lev x → Low lev x stop (cells_of f)
  low-rest n void t h = tt
  low-rest n (node c k s) t h = omega arith

  low-past : (d : A) (i : ℕ) (cs : List A) → lev (get_or cs i d) < lev x → Low lev x stop (drop (i + run_len lev d i cs) cs)
  low-past d i cs h =
      let n : ℕ = lev (get_or cs i d) in
      let t : List A = drop (suc i) cs in
      let q : i + run_len lev d i cs ≡ suc i + under lev n t = omega arith in
      rw (q, ← drop-drop (under lev n t) (suc i) cs, past-run lev n t) (low-rest n (rest lev n (forest_of lev t)) (top-rest lev n (forest_of lev t)) h)

  -- LAW 12: on the cells that is one cell placed behind cell i
  pub cells-insert : (d : A) (n i : ℕ) (cs : List A) → i < length cs → Levelled lev n (forest_of lev cs) → suc (lev (get_or cs i d)) ≡ lev x
      → cells_of (insert_under lev x stop i (forest_of lev cs)) ≡ take (suc i) cs ++ place lev x stop (drop (suc i) cs)
  cells-insert d n i cs l a q =
      let K : Forest A = kids i (forest_of lev cs) in
      let D : List A = drop (i + run_len lev d i cs) cs in
      let e : cells_of (forest_of lev cs) ≡ cs = cells-forest lev cs in
      let b : Levelled lev (lev x) K = rw (e, q) at (levelled-kids lev d n i (forest_of lev cs) (rw e l) a) in
      edit-forest lev (λ c k. node c (graft lev x stop k) void) d i cs l
      ∙ rw (
        append-nil (cells_of (graft lev x stop K)),
        cells-graft lev x stop K D b (low-past d i cs (omega arith)),
        tail-split lev d i cs l,
        take-suc cs i d l,
        append_assoc (take i cs) (get_or cs i d ∷ []) (place lev x stop (drop (suc i) cs)),
      )

  pub forest-insert : (d : A) (n i : ℕ) (cs : List A) → i < length cs → Levelled lev n (forest_of lev cs) → suc (lev (get_or cs i d)) ≡ lev x
      → forest_of lev (take (suc i) cs ++ place lev x stop (drop (suc i) cs)) ≡ insert_under lev x stop i (forest_of lev cs)
  forest-insert d n i cs l a q =
      let F : Forest A = forest_of lev cs in
      let e : cells_of F ≡ cs = cells-forest lev cs in
      let b : Levelled lev (lev x) (kids i F) = rw (e, q) at (levelled-kids lev d n i F (rw e l) a) in
      let h : A → Forest A → Forest A = λ c k. node c (graft lev x stop k) void in
      let p : Levelled lev (lev (get_or (cells_of F) i d)) (h (get_or (cells_of F) i d) (kids i F)) = (refl, rw (e, q) (levelled-graft (kids i F) b), tt) in
      ap (forest_of lev) (sym (cells-insert d n i cs l a q)) ∙ forest-cells lev (insert_under lev x stop i F) (shape-levelled lev n (insert_under lev x stop i F) (levelled-edit lev h d n i F (rw e l) a p))

  -- and at the top
  pub forest-top : (cs : List A) → Levelled lev (lev x) (forest_of lev cs) → forest_of lev (place lev x stop cs) ≡ graft lev x stop (forest_of lev cs)
  forest-top cs a =
      let F : Forest A = forest_of lev cs in
      let e : cells_of (graft lev x stop F) ≡ place lev x stop cs = sym (append-nil (cells_of (graft lev x stop F))) ∙ cells-graft lev x stop F [] a tt ∙ rw (append-nil (cells_of F), cells-forest lev cs) in
      ap (forest_of lev) (sym e) ∙ forest-cells lev (graft lev x stop F) (shape-levelled lev (lev x) (graft lev x stop F) (levelled-graft F a))
