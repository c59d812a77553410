-- What rests on a child being deeper than its parent: the run of a cell is its cell and all beneath it, and an edit of the forest is one of the cells.
-- Assumes nothing.
use Rattle.std.specs.Prelude.{◌≡◌, length, take, drop, get_or, set}
use Rattle.std.proofs.Math.Path.{refl}
use Rattle.std.proofs.Common.{ap, sym, ◌∙◌, arith, zero-add, drop_at, drop-drop}
use mathlib.Core.List.{List, [], ◌∷◌, ◌++◌, append_assoc, append-nil}
use Prim.Native.Nat.{ℕ, zero, suc, ◌+◌, ◌-◌, ◌<◌, ◌≤◌}
use Rattle.std.proofs.Math.Nat.{sub-zero}
use Rattle.std.proofs.Math.ListN.{length-append}
use Rattle.std.proofs.lemmas.List.{set_split}
use Rattle.forest.specs.Forest.{Forest, void, node, cells_of, join, inside, outside, side, deep, rest, forest_of, deep_in, deep_out, rest_in, rest_out}
use Rattle.forest.proofs.Forest.{deep-rest, cells-forest}
use Rattle.forest.specs.Shape.{Above, Shape, Levelled, shape-levelled}
use Rattle.forest.proofs.Shape.{shape-forest, forest-cells}
use Rattle.forest.specs.Edit.{size, kids, edit, kids-in, kids-out, edit-cells}
use Rattle.forest.specs.Runs.{size-node, under, under-in, under-out, run_len, levelled-edit, prune, cut, swap}

module _ {A : Type 0} where
  kids-join-left : (i : ℕ) (f g : Forest A) → i < size f → kids i (join f g) ≡ kids i f
  unfolding kids
  kids-join-left i void g l = absurd (omega arith)
  kids-join-left zero (node c k s) g l = refl
  kids-join-left (suc i) (node c k s) g l = elim (side i (size k)) [
    | inside m ↦ rw (kids-in i c k (join s g) m, kids-in i c k s m)
    | outside m ↦ rw (kids-out i c k (join s g) m, kids-out i c k s m) (kids-join-left (i - size k) s g (omega (arith, size-node c k s)))
  ]

  kids-join-right : (i : ℕ) (f g : Forest A) → size f ≤ i → kids i (join f g) ≡ kids (i - size f) g
  kids-join-right i void g l = rw sub-zero
  kids-join-right zero (node c k s) g l = absurd (omega arith)
  kids-join-right (suc i) (node c k s) g l =
      let m : size k ≤ i = omega (arith, size-node c k s) in
      let q : i - size k - size s ≡ suc i - size (node c k s) = omega (arith, size-node c k s) in
      kids-out i c k (join s g) m ∙ kids-join-right (i - size k) s g (omega (arith, size-node c k s)) ∙ ap (λ (n : ℕ). kids n g) q

module _ {A : Type 0} (lev : A → ℕ) where
  join-deep-rest : (n : ℕ) (f : Forest A) → join (deep lev n f) (rest lev n f) ≡ f
  unfolding deep rest
  join-deep-rest n void = refl
  join-deep-rest n (node c k s) = elim (side n (lev c)) [
    | inside h ↦ rw (deep_in lev n c k s h, rest_in lev n c k s h, join-deep-rest n s)
    | outside h ↦ rw (deep_out lev n c k s h, rest_out lev n c k s h)
  ]

  above-below : (n m : ℕ) (f : Forest A) → n < m → Above lev m f → Above lev n f
  above-below n m void l a = tt
  above-below n m (node c k s) l a = (omega arith, above-below n m s l a.1)

  under-append : (n : ℕ) (f : Forest A) (xs : List A) → Above lev n f → Shape lev f → under lev n (cells_of f ++ xs) ≡ size f + under lev n xs
  under-append n void xs a h = rw zero-add
  under-append n (node c k s) xs a h =
      rw (
        under-in lev n c (cells_of k ++ cells_of s ++ xs) a.0,
        append_assoc (cells_of k) (cells_of s) xs,
        under-append n k (cells_of s ++ xs) (above-below n (lev c) k a.0 h.0) h.2,
        under-append n s xs a.1 h.3,
        length-append (cells_of k) (cells_of s),
      )
      (omega arith)

  pub under-deep : (n : ℕ) (f : Forest A) → Shape lev f → under lev n (cells_of f) ≡ size (deep lev n f)
  unfolding under deep
  under-deep n void h = refl
  under-deep n (node c k s) h = elim (side n (lev c)) [
    | inside l ↦ rw (
      deep_in lev n c k s l,
      under-in lev n c (cells_of k ++ cells_of s) l,
      under-append n k (cells_of s) (above-below n (lev c) k l h.0) h.2,
      under-deep n s h.3,
      length-append (cells_of k) (cells_of (deep lev n s)),
    )
    | outside l ↦ rw (deep_out lev n c k s l, under-out lev n c (cells_of k ++ cells_of s) l)
  ]

  kids-split : (n i : ℕ) (c : A) (f : Forest A) → kids (suc i) (node c (deep lev n f) (rest lev n f)) ≡ kids i f
  kids-split n i c f = elim (side i (size (deep lev n f))) [
    | inside m ↦ kids-in i c (deep lev n f) (rest lev n f) m ∙ sym (kids-join-left i (deep lev n f) (rest lev n f) m) ∙ ap (kids i) (join-deep-rest n f)
    | outside m ↦ kids-out i c (deep lev n f) (rest lev n f) m ∙ sym (kids-join-right i (deep lev n f) (rest lev n f) m) ∙ ap (kids i) (join-deep-rest n f)
  ]

  -- the children of cell i are the deeper siblings that lead the forest of the cells behind it
  pub kids-forest : (d : A) (i : ℕ) (cs : List A) → i < length cs → kids i (forest_of lev cs) ≡ deep lev (lev (get_or cs i d)) (forest_of lev (drop (suc i) cs))
  unfolding forest_of kids
  kids-forest d i [] l = absurd (omega arith)
  kids-forest d zero (c ∷ cs) l = refl
  kids-forest d (suc i) (c ∷ cs) l = kids-split (lev c) i c (forest_of lev cs) ∙ kids-forest d i cs (omega arith)

  -- LAW 4: a cell and all beneath it are as many as its run is long
  pub run_length : (d : A) (i : ℕ) (cs : List A) → i < length cs → suc (size (kids i (forest_of lev cs))) ≡ run_len lev d i cs
  run_length d i cs l =
      let t : List A = drop (suc i) cs in
      rw (kids-forest d i cs l, ← under-deep (lev (get_or cs i d)) (forest_of lev t) (shape-forest lev t), cells-forest lev t)

  -- the cells behind a run are the cells of what the forest has left there
  pub past-run : (n : ℕ) (t : List A) → drop (under lev n t) t ≡ cells_of (rest lev n (forest_of lev t))
  past-run n t =
      let F : Forest A = forest_of lev t in
      let e : cells_of (deep lev n F) ++ cells_of (rest lev n F) ≡ t = deep-rest lev n F ∙ cells-forest lev t in
      let u : size (deep lev n F) ≡ under lev n t = sym (under-deep n F (shape-forest lev t)) ∙ ap (under lev n) (cells-forest lev t) in
      sym (ap (drop (under lev n t)) e) ∙ drop_at (cells_of (deep lev n F)) (cells_of (rest lev n F)) (under lev n t) u

  -- the cells behind cell i: those of its children, then those behind its run
  pub tail-split : (d : A) (i : ℕ) (cs : List A) → i < length cs → cells_of (kids i (forest_of lev cs)) ++ drop (i + run_len lev d i cs) cs ≡ drop (suc i) cs
  tail-split d i cs l =
      let n : ℕ = lev (get_or cs i d) in
      let t : List A = drop (suc i) cs in
      let q : i + run_len lev d i cs ≡ suc i + under lev n t = omega arith in
      rw (kids-forest d i cs l, q, ← drop-drop (under lev n t) (suc i) cs, past-run n t) (deep-rest lev n (forest_of lev t) ∙ cells-forest lev t)

  -- an edit, on the cells: what stands for the run of cell i
  pub edit-forest : (h : A → Forest A → Forest A) (d : A) (i : ℕ) (cs : List A) → i < length cs
      → cells_of (edit h i (forest_of lev cs)) ≡ take i cs ++ (cells_of (h (get_or cs i d) (kids i (forest_of lev cs))) ++ drop (i + run_len lev d i cs) cs)
  edit-forest h d i cs l =
      let F : Forest A = forest_of lev cs in
      let e : cells_of F ≡ cs = cells-forest lev cs in
      let q : cells_of (edit h i F) ≡ take i (cells_of F) ++ (cells_of (h (get_or (cells_of F) i d) (kids i F)) ++ drop (i + suc (size (kids i F))) (cells_of F)) = edit-cells h d i F (rw e l) in
      rw (run_length d i cs l, e) at q

  -- so the edited cells have the edited forest
  pub forest-edit : (h : A → Forest A → Forest A) (d : A) (n i : ℕ) (cs : List A) → i < length cs → Levelled lev n (forest_of lev cs)
      → Levelled lev (lev (get_or cs i d)) (h (get_or cs i d) (kids i (forest_of lev cs)))
      → forest_of lev (take i cs ++ (cells_of (h (get_or cs i d) (kids i (forest_of lev cs))) ++ drop (i + run_len lev d i cs) cs)) ≡ edit h i (forest_of lev cs)
  forest-edit h d n i cs l a p =
      let F : Forest A = forest_of lev cs in
      let e : cells_of F ≡ cs = cells-forest lev cs in
      let b : Levelled lev n (edit h i F) = levelled-edit lev h d n i F (rw e l) a (rw e p) in
      ap (forest_of lev) (sym (edit-forest h d i cs l)) ∙ forest-cells lev (edit h i F) (shape-levelled lev n (edit h i F) b)

  -- LAW 5
  pub cells-prune : (d : A) (i : ℕ) (cs : List A) → i < length cs → cells_of (prune lev i (forest_of lev cs)) ≡ cut lev d i cs
  cells-prune d i cs l = edit-forest (λ c k. void) d i cs l

  pub forest-cut : (d : A) (n i : ℕ) (cs : List A) → i < length cs → Levelled lev n (forest_of lev cs) → forest_of lev (cut lev d i cs) ≡ prune lev i (forest_of lev cs)
  forest-cut d n i cs l a = forest-edit (λ c k. void) d n i cs l a tt

  pub cells-swap : (d x : A) (i : ℕ) (cs : List A) → i < length cs → cells_of (swap lev x i (forest_of lev cs)) ≡ set cs i x
  cells-swap d x i cs l =
      edit-forest (λ c k. node x k void) d i cs l
      ∙ rw (append-nil (cells_of (kids i (forest_of lev cs))), tail-split d i cs l) (sym (set_split cs i x l))
