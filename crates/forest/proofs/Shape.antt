-- What rests on a child being deeper than its parent: a forest of the shape is the forest of its listing.
-- Assumes nothing.
use Rattle.std.specs.Prelude.{◌≡◌, ℕ}
use Rattle.std.proofs.Math.Path.{refl, ap}
use Rattle.std.proofs.Common.{sym, ◌∙◌, arith}
use mathlib.Core.List.{List, [], ◌∷◌, ◌++◌, append_assoc, append-nil}
use Rattle.forest.specs.Forest.{Forest, void, node, cells_of, join, inside, outside, side, deep, rest, forest_of, deep_in, deep_out, rest_in, rest_out}
use Rattle.forest.specs.Shape.{join-void, TopAtMost, Above, Shape, Behind, top-rest}

module _ {A : Type 0} (lev : A → ℕ) where
  above-deep : (n : ℕ) (f : Forest A) → Above lev n (deep lev n f)
  unfolding deep
  above-deep n void = tt
  above-deep n (node c k s) = elim (side n (lev c)) [
    | inside h ↦ rw (deep_in lev n c k s h) (h, above-deep n s)
    | outside h ↦ rw (deep_out lev n c k s h) tt
  ]

  top-deep : (n m : ℕ) (f : Forest A) → TopAtMost lev m f → TopAtMost lev m (deep lev n f)
  unfolding deep
  top-deep n m void t = tt
  top-deep n m (node c k s) t = elim (side n (lev c)) [
    | inside h ↦ rw (deep_in lev n c k s h) t
    | outside h ↦ rw (deep_out lev n c k s h) tt
  ]

  shape-deep : (n : ℕ) (f : Forest A) → Shape lev f → Shape lev (deep lev n f)
  unfolding deep
  shape-deep n void t = tt
  shape-deep n (node c k s) t = elim (side n (lev c)) [
    | inside h ↦ rw (deep_in lev n c k s h) (t.0, top-deep n (lev c) s t.1, t.2, shape-deep n s t.3)
    | outside h ↦ rw (deep_out lev n c k s h) tt
  ]

  shape-rest : (n : ℕ) (f : Forest A) → Shape lev f → Shape lev (rest lev n f)
  unfolding rest
  shape-rest n void t = tt
  shape-rest n (node c k s) t = elim (side n (lev c)) [
    | inside h ↦ rw (rest_in lev n c k s h) (shape-rest n s t.3)
    | outside h ↦ rw (rest_out lev n c k s h) t
  ]

  -- the forest of a listing has the shape
  pub shape-forest : (cs : List A) → Shape lev (forest_of lev cs)
  unfolding forest_of
  shape-forest [] = tt
  shape-forest (c ∷ cs) =
      let ih : Shape lev (forest_of lev cs) = shape-forest cs in
      (above-deep (lev c) (forest_of lev cs), top-rest lev (lev c) (forest_of lev cs), shape-deep (lev c) (forest_of lev cs) ih, shape-rest (lev c) (forest_of lev cs) ih)

  deep-join : (n : ℕ) (k g : Forest A) → Above lev n k → TopAtMost lev n g → deep lev n (join k g) ≡ k
  unfolding deep
  deep-join n void void a t = refl
  deep-join n void (node c k s) a t = deep_out lev n c k s t
  deep-join n (node c k s) g a t = rw (deep_in lev n c k (join s g) a.0, deep-join n s g a.1 t)

  rest-join : (n : ℕ) (k g : Forest A) → Above lev n k → TopAtMost lev n g → rest lev n (join k g) ≡ g
  unfolding rest
  rest-join n void void a t = refl
  rest-join n void (node c k s) a t = rest_out lev n c k s t
  rest-join n (node c k s) g a t = rw (rest_in lev n c k (join s g) a.0, rest-join n s g a.1 t)

  behind-above : (n : ℕ) (k g : Forest A) → Above lev n k → TopAtMost lev n g → Behind lev k g
  behind-above n void g a t = tt
  behind-above n (node c k s) void a t = (tt, behind-above n s void a.1 t)
  behind-above n (node c k s) (node d l r) a t = (omega arith, behind-above n s (node d l r) a.1 t)

  top-join : (n : ℕ) (s g : Forest A) → TopAtMost lev n s → TopAtMost lev n g → TopAtMost lev n (join s g)
  top-join n void g t u = u
  top-join n (node c k s) g t u = t

  pub forest-append : (f : Forest A) (xs : List A) → Shape lev f → Behind lev f (forest_of lev xs) → forest_of lev (cells_of f ++ xs) ≡ join f (forest_of lev xs)
  unfolding forest_of
  forest-append void xs h b = refl
  forest-append (node c k s) xs h b =
      let g : Forest A = join s (forest_of lev xs) in
      let t : TopAtMost lev (lev c) g = top-join (lev c) s (forest_of lev xs) h.1 b.0 in
      let e : forest_of lev (cells_of s ++ xs) ≡ g = forest-append s xs h.3 b.1 in
      let u : Behind lev k (forest_of lev (cells_of s ++ xs)) = rw e (behind-above (lev c) k g h.0 t) in
      rw (append_assoc (cells_of k) (cells_of s) xs, forest-append k (cells_of s ++ xs) h.2 u, e, deep-join (lev c) k g h.0 t, rest-join (lev c) k g h.0 t)

  behind-void : (f : Forest A) → Behind lev f void
  behind-void void = tt
  behind-void (node c k s) = (tt, behind-void s)

  -- LAW 2: a forest of that shape is the forest of its listing
  pub forest-cells : (f : Forest A) → Shape lev f → forest_of lev (cells_of f) ≡ f
  unfolding forest_of
  forest-cells f h = ap (forest_of lev) (sym (append-nil (cells_of f))) ∙ forest-append f [] h (behind-void f) ∙ join-void f
