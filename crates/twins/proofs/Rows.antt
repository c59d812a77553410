-- A new cell x in a row of siblings: what it passes, and what cannot stand behind the place where it stops. Assumes nothing.
use mathlib.Core.Path.{◌≡◌, refl, ◌∙◌}
use mathlib.Core.Bool.{Bool, true, false, not}
use mathlib.Core.List.{List, [], ◌∷◌, ◌++◌, append_assoc}
use Prim.Native.Nat.{ℕ, zero, suc, ◌+◌, ◌<◌, ◌≤◌}
use native.Mathlib.Omega.{arith}
use borrow.Author.Tests.{lt-ltb, le-ltb, eq-eqb, ne_eqb}
use lib.ListN.{length, drop, get_or, length-append}
use lib.Seq.{drop-nil, drop-drop, drop-append-add}
use Rattle.forest.specs.Forest.{Forest, void, node, cells_of, rest, forest_of}
use Rattle.forest.specs.Shape.{Levelled, TopAtMost, top-rest}
use Rattle.forest.specs.Edit.{size}
use Rattle.forest.specs.Runs.{under, run_len}
use Rattle.forest.proofs.Runs.{past-run}
use Rattle.forest.specs.Insert.{passes, spot, Low}
use Rattle.forest.specs.Good.{Wf, on, off, is}

-- each cell of a list is one of P
module _ {A : Type 0} (P : A → Type 0) where
  abbrev pub Each : List A → Type 0
  Each [] = Unit {0}
  Each (c ∷ cs) = P c × Each cs

  pub each_append : (xs ys : List A) → Each xs → Each ys → Each (xs ++ ys)
  each_append [] ys a b = b
  each_append (x ∷ xs) ys a b = (a.0, each_append xs ys a.1 b)

  pub each_at : (d : A) (xs : List A) (j : ℕ) → Each xs → j < length xs → P (get_or xs j d)
  each_at d [] j a l = absurd (omega arith)
  each_at d (x ∷ xs) zero a l = a.0
  each_at d (x ∷ xs) (suc j) a l = each_at d xs j a.1 (omega arith)

module _ {A : Type 0} (lev : A → ℕ) where
  -- no cell of a row is less deep than its siblings
  pub each_level : (n m : ℕ) (f : Forest A) → m ≤ n → Levelled lev n f → Each (λ c. m ≤ lev c) (cells_of f)
  each_level n m void l a = tt
  each_level n m (node c k s) l a =
      (omega (arith, a.0), each_append (λ c. m ≤ lev c) (cells_of k) (cells_of s) (each_level (suc n) m k (omega arith) a.1) (each_level n m s l a.2))

module _ {A : Type 0} (lev : A → ℕ) (x : A) (stop : A → Bool) where
  -- x passes a deeper cell, and one of its level at which it does not stop; it never passes one that is less deep
  pub pass-deep : (c : A) → lev x < lev c → passes lev x stop c ≡ true
  pass-deep c h = rw (lt-ltb (lev x) (lev c) h)

  pub pass_same : (c : A) → lev c ≡ lev x → passes lev x stop c ≡ not (stop c)
  pass_same c e = rw (le-ltb (lev x) (lev c) (omega arith), eq-eqb (lev c) (lev x) e)

  pub pass-low : (c : A) → lev c < lev x → passes lev x stop c ≡ false
  pass-low c h = rw (le-ltb (lev x) (lev c) (omega arith), ne_eqb (lev c) (lev x) (λ e. omega arith))

  pub spot-pass : (c : A) (cs : List A) → passes lev x stop c ≡ true → spot lev x stop (c ∷ cs) ≡ suc (spot lev x stop cs)
  unfolding spot
  spot-pass c cs e = rw (spot, e)

  pub spot-stop : (c : A) (cs : List A) → passes lev x stop c ≡ false → spot lev x stop (c ∷ cs) ≡ 0
  unfolding spot
  spot-stop c cs e = rw (spot, e)

  pub spot-low : (cs : List A) → Low lev x stop cs → spot lev x stop cs ≡ 0
  unfolding spot
  spot-low [] h = refl
  spot-low (c ∷ cs) h = spot-stop c cs (pass-low c h)

  -- so it goes no further than the cells that it can pass
  pub spot-within : (cs xs : List A) → Low lev x stop xs → spot lev x stop (cs ++ xs) ≤ length cs
  spot-within [] xs h = omega (arith, spot-low xs h)
  spot-within (c ∷ cs) xs h = elim (is (passes lev x stop c)) [
    | on e ↦ omega (arith, spot-pass c (cs ++ xs) e, spot-within cs xs h)
    | off e ↦ omega (arith, spot-stop c (cs ++ xs) e)
  ]

  spot-deep : (n : ℕ) (k : Forest A) (xs : List A) → Levelled lev n k → lev x < n → spot lev x stop (cells_of k ++ xs) ≡ size k + spot lev x stop xs
  spot-deep n void xs a h = omega arith
  spot-deep n (node c k s) xs a h =
      rw (
        spot-pass c (cells_of k ++ cells_of s ++ xs) (pass-deep c (omega (arith, a.0))),
        append_assoc (cells_of k) (cells_of s) xs,
        spot-deep (suc n) k (cells_of s ++ xs) a.1 (omega arith),
        spot-deep n s xs a.2 h,
        length-append (cells_of k) (cells_of s),
      )
      (omega arith)

  -- what follows the run of cell i is less deep than a child of it
  pub low-past : (d : A) (i : ℕ) (cs : List A) → lev (get_or cs i d) < lev x → Low lev x stop (drop (i + run_len lev d i cs) cs)
  low-past d i cs h =
      let n : ℕ = lev (get_or cs i d) in
      let t : List A = drop (suc i) cs in
      let q : i + run_len lev d i cs ≡ suc i + under lev n t = omega arith in
      rw (q, ← drop-drop (under lev n t) (suc i) cs, past-run lev n t) (low-rest n (rest lev n (forest_of lev t)) (top-rest lev n (forest_of lev t)) h)
    where
      low-rest : (n : ℕ) (f : Forest A) → TopAtMost lev n f → n < lev x → Low lev x stop (cells_of f)
      low-rest n void t h = tt
      low-rest n (node c k s) t h = omega arith

  -- a mark that no deeper cell has, nor one at which x stops, where each sibling behind such a one is another
  module _ (typ : A → ℕ) (fit : ℕ → A → Bool) (ok : A → A → Bool) (mark : A → Bool)
      (deep : (c : A) → lev x < lev c → mark c ≡ false)
      (past : (c : A) → stop c ≡ true → mark c ≡ false)
      (onward : (c d : A) → stop c ≡ true → ok c d ≡ true → stop d ≡ true) where
    abbrev Bare : A → Type 0
    Bare c = mark c ≡ false

    bare-deep : (n : ℕ) (k : Forest A) → Levelled lev n k → lev x < n → Each Bare (cells_of k)
    bare-deep n void a h = tt
    bare-deep n (node c k s) a h =
        (deep c (omega (arith, a.0)), each_append Bare (cells_of k) (cells_of s) (bare-deep (suc n) k a.1 (omega arith)) (bare-deep n s a.2 h))

    bare-after : (p : ℕ) (c : A) (k s : Forest A) → Wf typ fit ok p (node c k s) → Levelled lev (lev x) (node c k s) → stop c ≡ true → Each Bare (cells_of (node c k s))
    bare-after p c k void w a e = (past c e, each_append Bare (cells_of k) [] (bare-deep (suc (lev x)) k a.1 (omega arith)) tt)
    bare-after p c k (node d l r) w a e =
        (past c e, each_append Bare (cells_of k) (cells_of (node d l r)) (bare-deep (suc (lev x)) k a.1 (omega arith)) (bare-after p d l r w.3 a.2 (onward c d e w.1)))

    -- no cell of the row from the spot on has it
    pub bare-behind : (p : ℕ) (f : Forest A) (xs : List A) → Wf typ fit ok p f → Levelled lev (lev x) f → Each Bare (drop (spot lev x stop (cells_of f ++ xs)) (cells_of f))
    bare-behind p void xs w a = rw (drop-nil (spot lev x stop xs)) tt
    bare-behind p (node c k s) xs w a = elim (is (stop c)) [
      | on e ↦ rw (spot-stop c (cells_of k ++ cells_of s ++ xs) (pass_same c a.0 ∙ rw e)) (bare-after p c k s w a e)
      | off e ↦ rw (
        spot-pass c (cells_of k ++ cells_of s ++ xs) (pass_same c a.0 ∙ rw e),
        append_assoc (cells_of k) (cells_of s) xs,
        spot-deep (suc (lev x)) k (cells_of s ++ xs) a.1 (omega arith),
        drop-append-add (cells_of k) (cells_of s) (spot lev x stop (cells_of s ++ xs)),
      )
          (bare-behind p s xs w.3 a.2)
    ]
