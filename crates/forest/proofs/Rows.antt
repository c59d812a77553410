-- What rests on a child being deeper than its parent: the rows of the tree from the cells alone, by a stack and by walking back.
-- Assumes nothing.
use Rattle.std.specs.Prelude.{◌≡◌, length, take, get_or}
use Rattle.std.proofs.Math.Path.{refl, sym}
use Rattle.std.proofs.Common.{arith}
use mathlib.Core.List.{List, [], ◌∷◌, ◌++◌, map, reverse_aux, append_assoc}
use Prim.Native.Nat.{ℕ, zero, suc, ◌<◌, ◌≤◌}
use borrow.Author.Tests.{lt-ltb, le-ltb}
use Rattle.forest.specs.Forest.{Forest, void, node, inside, outside, side, deep, rest, forest_of, deep_in, deep_out, rest_in, rest_out}
use Rattle.forest.specs.Rows.{rows, pop, lines, back, back_in, back-out, map_f}

module _ {A : Type 0} (lev : A → ℕ) where
  pop-in : (n : ℕ) (a : A) (st : List A) → lev a < n → pop lev n (a ∷ st) ≡ a ∷ st
  unfolding pop
  pop-in n a st h = rw (pop, lt-ltb (lev a) n)

  pop-out : (n : ℕ) (a : A) (st : List A) → n ≤ lev a → pop lev n (a ∷ st) ≡ pop lev n st
  unfolding pop
  pop-out n a st h = rw (pop, le-ltb (lev a) n)

  -- what the open cells take of a forest: each its deeper leading siblings
  open-rows : List A → Forest A → List (List A)
  open-rows [] f = rows [] f
  open-rows (a ∷ st) f = rows (a ∷ st) (deep lev (lev a) f) ++ open-rows st (rest lev (lev a) f)

  open-void : (st : List A) → open-rows st void ≡ []
  unfolding open-rows deep rest
  open-void [] = refl
  open-void (a ∷ st) = open-void st

  open-node : (st : List A) (c : A) (k s : Forest A)
      → open-rows st (node c k s) ≡ (c ∷ pop lev (lev c) st) ∷ (rows (c ∷ pop lev (lev c) st) k ++ open-rows (pop lev (lev c) st) s)
  unfolding open-rows pop
  open-node [] c k s = refl
  open-node (a ∷ st) c k s = elim (side (lev a) (lev c)) [
    | inside h ↦ rw (
      pop-in (lev c) a st h,
      deep_in lev (lev a) c k s h,
      rest_in lev (lev a) c k s h,
      append_assoc (rows (c ∷ (a ∷ st)) k) (rows (a ∷ st) (deep lev (lev a) s)) (open-rows st (rest lev (lev a) s)),
    )
    | outside h ↦ rw (pop-out (lev c) a st h, deep_out lev (lev a) c k s h, rest_out lev (lev a) c k s h) (open-node st c k s)
  ]

  lines-open : (st cs : List A) → lines lev st cs ≡ open-rows st (forest_of lev cs)
  unfolding lines forest_of open-rows
  lines-open st [] = sym (open-void st)
  lines-open st (c ∷ cs) = rw (lines-open (c ∷ pop lev (lev c) st) cs) (sym (open-node st c (deep lev (lev c) (forest_of lev cs)) (rest lev (lev c) (forest_of lev cs))))

  -- LAW 7: the rows of the tree, from the cells alone
  pub lines_rows : (cs : List A) → lines lev [] cs ≡ rows [] (forest_of lev cs)
  unfolding open-rows
  lines_rows cs = lines-open [] cs

  stack : List A → List A
  stack [] = []
  stack (a ∷ r) = a ∷ pop lev (lev a) (stack r)

  pop-pop : (n m : ℕ) (st : List A) → n ≤ m → pop lev n (pop lev m st) ≡ pop lev n st
  unfolding pop
  pop-pop n m [] h = refl
  pop-pop n m (a ∷ st) h = elim (side (lev a) m) [
    | inside l ↦ rw (pop-in m a st l)
    | outside l ↦ rw (pop-out m a st l, pop-out n a st (omega arith)) (pop-pop n m st h)
  ]

  pop-stack : (n : ℕ) (r : List A) → pop lev n (stack r) ≡ back lev n r
  unfolding pop stack back
  pop-stack n [] = refl
  pop-stack n (a ∷ r) = elim (side (lev a) n) [
    | inside l ↦ rw (pop-in n a (pop lev (lev a) (stack r)) l, back_in lev n a r l, pop-stack (lev a) r)
    | outside l ↦ rw (pop-out n a (pop lev (lev a) (stack r)) l, back-out lev n a r l, pop-pop n (lev a) (stack r) l) (pop-stack n r)
  ]

  lines-back : (d : A) (r : List A) (i : ℕ) (cs : List A) → i < length cs
      → get_or (lines lev (stack r) cs) i [] ≡ get_or cs i d ∷ back lev (lev (get_or cs i d)) (reverse_aux (take i cs) r)
  unfolding lines stack
  lines-back d r i [] l = absurd (omega arith)
  lines-back d r zero (c ∷ cs) l = rw (pop-stack (lev c) r)
  lines-back d r (suc i) (c ∷ cs) l = lines-back d (c ∷ r) i cs (omega arith)

  -- LAW 8: the ancestors of cell i by walking back from it
  pub rows_back : (d : A) (i : ℕ) (cs : List A) → i < length cs
      → get_or (rows [] (forest_of lev cs)) i [] ≡ get_or cs i d ∷ back lev (lev (get_or cs i d)) (reverse_aux (take i cs) [])
  unfolding stack
  rows_back d i cs l = rw (← lines_rows cs) (lines-back d [] i cs l)

module _ {A B : Type 0} (g : A → B) (lev : B → ℕ) where
  deep-map : (n : ℕ) (f : Forest A) → map_f g (deep (λ x. lev (g x)) n f) ≡ deep lev n (map_f g f)
  unfolding deep
  deep-map n void = refl
  deep-map n (node c k s) = elim (side n (lev (g c))) [
    | inside h ↦ rw (deep_in (λ x. lev (g x)) n c k s h, deep_in lev n (g c) (map_f g k) (map_f g s) h, deep-map n s)
    | outside h ↦ rw (deep_out (λ x. lev (g x)) n c k s h, deep_out lev n (g c) (map_f g k) (map_f g s) h)
  ]

  rest-map : (n : ℕ) (f : Forest A) → map_f g (rest (λ x. lev (g x)) n f) ≡ rest lev n (map_f g f)
  unfolding rest
  rest-map n void = refl
  rest-map n (node c k s) = elim (side n (lev (g c))) [
    | inside h ↦ rw (rest_in (λ x. lev (g x)) n c k s h, rest_in lev n (g c) (map_f g k) (map_f g s) h, rest-map n s)
    | outside h ↦ rw (rest_out (λ x. lev (g x)) n c k s h, rest_out lev n (g c) (map_f g k) (map_f g s) h)
  ]

  -- LAW 9: the forest of cells is the forest of cell numbers, each number read
  pub forest-map : (xs : List A) → forest_of lev (map g xs) ≡ map_f g (forest_of (λ x. lev (g x)) xs)
  unfolding forest_of
  forest-map [] = refl
  forest-map (x ∷ xs) = rw (forest-map xs, deep-map (lev (g x)) (forest_of (λ y. lev (g y)) xs), rest-map (lev (g x)) (forest_of (λ y. lev (g y)) xs))
