-- Paths of cells: where each ends, and which is the front of which. Assumes nothing.
use mathlib.Core.Path.{◌≡◌, refl, ap, sym, ◌∙◌}
use mathlib.Core.Bool.{Bool, true, false, ◌||◌, or-false}
use mathlib.Core.List.{List, [], ◌∷◌, ◌++◌, reverse, reverse_aux, reverse-cons, reverse-append}
use Prim.Native.Nat.{ℕ, zero, suc, ◌<◌}
use native.Mathlib.Omega.{arith}
use lib.Dec.{eqb}
use lib.ListN.{length}
use borrow.Author.Tests.{eq-eqb, eqb-true}
use Rattle.forest.specs.Forest.{inside, outside, side}
use Rattle.forest.specs.Good.{on, off, is, both_left, both_right}
use Rattle.forest.specs.Rows.{back, back_in, back-out}
use Rattle.forest.specs.Numbers.{down_to, is_in, ancestors}
use Rattle.rules.specs.Block.{Bytes}
use Rattle.rules.specs.Cells.{Segment, level_at, row_at}
use Rattle.rules.specs.Matching.{path_to}
use Rattle.rules.specs.Paths.{Path, end, is_prefix}

pub end-append : (xs : Path) (i : ℕ) → end (xs ++ (i ∷ [])) ≡ i
end-append [] i = refl
end-append (x ∷ []) i = refl
end-append (x ∷ (y ∷ xs)) i = end-append (y ∷ xs) i

never : (b : Bool) → b ≡ true → b ≡ false → ⊥
never b e f = let z : ◌≡◌ {A = Bool} true false = sym e ∙ f in let y : ◌≡◌ {A = ℕ} 0 1 = cc in omega arith

prefix-append : (q r : Path) → is_prefix q (q ++ r) ≡ true
prefix-append [] r = refl
prefix-append (i ∷ q) r = rw (eq-eqb i i refl) (prefix-append q r)

-- the end of a front stands on the path
prefix-end : (q p : Path) → 0 < length q → is_prefix q p ≡ true → is_in (end q) p ≡ true
prefix-end [] p l e = absurd (omega arith)
prefix-end (i ∷ []) [] l e = e
prefix-end (i ∷ (k ∷ q)) [] l e = e
prefix-end (i ∷ []) (j ∷ p) l e = rw (both_left (eqb i j) true e)
prefix-end (i ∷ (k ∷ q)) (j ∷ p) l e =
    or_right (eqb (end (k ∷ q)) j) (is_in (end (k ∷ q)) p) (prefix-end (k ∷ q) p (omega arith) (both_right (eqb i j) (is_prefix (k ∷ q) p) e))
  where
    or_right : (a b : Bool) → b ≡ true → (a || b) ≡ true
    or_right true b e = refl
    or_right false b e = e

module _ (lev : ℕ → ℕ) where
  or-second : (a b : Bool) → (a || b) ≡ true → a ≡ false → b ≡ true
  or-second true b e f = absurd (never true refl f)
  or-second false b e f = e

  -- a cell among the ancestors of another brings its own behind it
  row-tail : (c n i : ℕ) → is_in c (back lev n (down_to i)) ≡ true → (xs : List ℕ) × (back lev n (down_to i) ≡ xs ++ (c ∷ ancestors lev c))
  unfolding back
  row-tail c n zero e = absurd (never false e refl)
  row-tail c n (suc i) e = elim (side (lev i) n) [
    | inside l ↦
        let f : (eqb c i || is_in c (back lev (lev i) (down_to i))) ≡ true = rw (back_in lev n i (down_to i) l) at e in
        elim (is (eqb c i)) [
          | on q ↦ (let z : i ≡ c = sym (eqb-true c i q) in ([], back_in lev n i (down_to i) l ∙ ap (λ (k : ℕ). k ∷ ancestors lev k) z))
          | off q ↦
              let r = row-tail c (lev i) i (or-second (eqb c i) (is_in c (back lev (lev i) (down_to i))) f q) in
              (i ∷ r.0, back_in lev n i (down_to i) l ∙ ap (◌∷◌ i) r.1)
        ]
    | outside l ↦
        let r = row-tail c n i (rw (back-out lev n i (down_to i) l) at e) in
        (r.0, back-out lev n i (down_to i) l ∙ r.1)
  ]

module _ (cat : Bytes) (cs : List Segment) where
  pub end-path : (i : ℕ) → end (path_to cat cs i) ≡ i
  unfolding path_to row_at
  end-path i = ap end (reverse-cons i (ancestors (level_at cat cs) i)) ∙ end-append (reverse (ancestors (level_at cat cs) i)) i

  in-reverse : (x : ℕ) (xs r : List ℕ) → is_in x (reverse_aux xs r) ≡ (is_in x xs || is_in x r)
  in-reverse x [] r = refl
  in-reverse x (y ∷ xs) r = in-reverse x xs (y ∷ r) ∙ turn (eqb x y) (is_in x xs) (is_in x r)
    where
      turn : (a b c : Bool) → (b || (a || c)) ≡ ((a || b) || c)
      turn true true c = refl
      turn true false c = refl
      turn false b c = refl

  pub in_path : (p i : ℕ) → is_in p (path_to cat cs i) ≡ is_in p (row_at cat cs i)
  unfolding path_to
  in_path p i = in-reverse p (row_at cat cs i) [] ∙ or-false (is_in p (row_at cat cs i))

  some-row : (c i : ℕ) → is_in c (row_at cat cs i) ≡ true → (xs : List ℕ) × (row_at cat cs i ≡ xs ++ row_at cat cs c)
  unfolding row_at
  some-row c i e = elim (is (eqb c i)) [
    | on q ↦ (let z : i ≡ c = sym (eqb-true c i q) in ([], ap (λ (k : ℕ). k ∷ ancestors (level_at cat cs) k) z))
    | off q ↦
        let r = row-tail (level_at cat cs) c (level_at cat cs i) i (or-second (level_at cat cs) (eqb c i) (is_in c (ancestors (level_at cat cs) i)) e q) in
        (i ∷ r.0, ap (◌∷◌ i) r.1)
  ]

  pub path-some : (c : ℕ) → 0 < length (path_to cat cs c)
  unfolding path_to row_at
  path-some c = rw (reverse-cons c (ancestors (level_at cat cs) c)) (long (reverse (ancestors (level_at cat cs) c)))
    where
      long : (xs : List ℕ) → 0 < length (xs ++ (c ∷ []))
      long [] = omega arith
      long (x ∷ xs) = omega arith

  prefix-of : (c i : ℕ) → is_in c (row_at cat cs i) ≡ true → is_prefix (path_to cat cs c) (path_to cat cs i) ≡ true
  unfolding path_to
  prefix-of c i e =
      let r = some-row c i e in
      let h : reverse (row_at cat cs i) ≡ reverse (row_at cat cs c) ++ reverse r.0 = ap reverse r.1 ∙ reverse-append r.0 (row_at cat cs c) in
      ap (is_prefix (reverse (row_at cat cs c))) h ∙ prefix-append (reverse (row_at cat cs c)) (reverse r.0)

  -- LAW: the path of c is the front of the path of i exactly where c is i or an ancestor of it
  pub prefix-row : (c i : ℕ) → is_prefix (path_to cat cs c) (path_to cat cs i) ≡ is_in c (row_at cat cs i)
  prefix-row c i = elim (is (is_in c (row_at cat cs i))) [
    | on e ↦ prefix-of c i e ∙ sym e
    | off e ↦ elim (is (is_prefix (path_to cat cs c) (path_to cat cs i))) [
      | on f ↦
          absurd (never (is_in c (row_at cat cs i)) (sym (in_path c i) ∙ ap (λ (k : ℕ). is_in k (path_to cat cs i)) (sym (end-path c))
          ∙ prefix-end (path_to cat cs c) (path_to cat cs i) (path-some c) f) e)
      | off f ↦ f ∙ sym e
    ]
  ]

  -- LAW: no path of a cell is the front of the empty one
  pub prefix-none : (c : ℕ) → is_prefix (path_to cat cs c) [] ≡ false
  prefix-none c = go (path_to cat cs c) (path-some c)
    where
      go : (q : Path) → 0 < length q → is_prefix q [] ≡ false
      go [] l = absurd (omega arith)
      go (i ∷ q) l = refl
