-- Runs and rows by the levels between two cells, and how they stand after a change of the cells. Assumes nothing.
use mathlib.Core.Path.{◌≡◌, ap, sym, ◌∙◌, fun_ext}
use mathlib.Core.Bool.{Bool, true, ◌&&◌, not}
use mathlib.Core.List.{List, [], ◌∷◌, ◌++◌}
use Prim.Native.Nat.{ℕ, zero, suc, ◌+◌, ◌-◌, ◌<◌, ◌≤◌}
use native.Mathlib.Omega.{arith}
use lib.Dec.{ltb, leb, eqb}
use lib.ListN.{length, get_or, take, set, get_or-append}
use lib.Seq.{length-take-le, get_or-take, get_or_at, get_or-set_same, get_or-set_other}
use borrow.Author.Tests.{ltb-true, leb-true, lt-ltb, le-leb, eqb-true, eqb-false}
use Rattle.forest.specs.Forest.{inside, outside, side}
use Rattle.forest.specs.Good.{on, off, is, both_left, both_right}
use Rattle.forest.specs.Runs.{under, under-in, under-out}
use Rattle.forest.specs.Insert.{passes, spot}
use Rattle.forest.specs.Numbers.{range, is_in, length-range}
use Rattle.rules.specs.Block.{Bytes}
use Rattle.rules.specs.Catalogue.{level}
use Rattle.rules.specs.Cells.{Segment, segment, blank, type_number, segment_level, level_at, run_at, end_at, row_at}
use Rattle.rules.proofs.Cells.{row-run}
use Rattle.model.proofs.Insert.{spot_in, spot_out}

module _ (lev : ℕ → ℕ) where
  -- the cells of a run are deeper than its first; and a run goes on as long as they are
  under_all : (m s len k : ℕ) → k < under lev m (range s len) → m < lev (s + k)
  unfolding under
  under_all m s zero k h = absurd (omega arith)
  under_all m s (suc len) k h = elim (side m (lev s)) [
    | inside l ↦ step m s len k l (rw (under-in lev m s (range (suc s) len) l) at h) (λ j b. under_all m (suc s) len j b)
    | outside l ↦ absurd (let f : k < 0 = rw (under-out lev m s (range (suc s) len) l) at h in omega arith)
  ]
    where
      step : (m s len k : ℕ) → m < lev s → k < suc (under lev m (range (suc s) len))
          → ((j : ℕ) → j < under lev m (range (suc s) len) → m < lev (suc s + j)) → m < lev (s + k)
      step m s len zero l h r = let z : s + 0 ≡ s = omega arith in rw z l
      step m s len (suc j) l h r = let z : s + suc j ≡ suc s + j = omega arith in rw z (r j (omega arith))

  under-least : (m s len j : ℕ) → j ≤ len → ((k : ℕ) → s ≤ k → k < s + j → m < lev k) → j ≤ under lev m (range s len)
  unfolding under
  under-least m s len zero a d = omega arith
  under-least m s zero (suc j) a d = absurd (omega arith)
  under-least m s (suc len) (suc j) a d =
      rw (under-in lev m s (range (suc s) len) (d s (omega arith) (omega arith)))
      (omega (arith, under-least m (suc s) len j (omega arith) (λ k x y. d k (omega arith) (omega arith))))

  under-le : (m : ℕ) (xs : List ℕ) → under lev m xs ≤ length xs
  unfolding under
  under-le m [] = omega arith
  under-le m (x ∷ xs) = elim (side m (lev x)) [
    | inside l ↦ rw (under-in lev m x xs l) (omega (arith, under-le m xs))
    | outside l ↦ rw (under-out lev m x xs l) (omega arith)
  ]

module _ (cat : Bytes) (cs : List Segment) where
  pub run-deep : (p k : ℕ) → p < k → k < end_at cat cs p → level_at cat cs p < level_at cat cs k
  unfolding end_at run_at
  run-deep p k a b =
      let z : suc p + (k - suc p) ≡ k = omega arith in
      rw z at (under_all (level_at cat cs) (level_at cat cs p) (suc p) (length cs - suc p) (k - suc p) (omega arith))

  pub end-from : (p e : ℕ) → p < e → e ≤ length cs → ((k : ℕ) → p < k → k < e → level_at cat cs p < level_at cat cs k) → e ≤ end_at cat cs p
  unfolding end_at run_at
  end-from p e a b d =
      omega (
        arith,
        under-least (level_at cat cs) (level_at cat cs p) (suc p) (length cs - suc p) (e - suc p) (omega arith) (λ k x y. d k (omega arith) (omega arith)),
      )

  pub end-le : (p : ℕ) → p < length cs → end_at cat cs p ≤ length cs
  unfolding end_at run_at
  end-le p l = omega (arith, under-le (level_at cat cs) (level_at cat cs p) (range (suc p) (length cs - suc p)), length-range (suc p) (length cs - suc p))

  pub end-some : (p : ℕ) → p < end_at cat cs p
  unfolding end_at run_at
  end-some p = omega arith

  pub in_row : (p i : ℕ) → p ≤ i → i < length cs → i < end_at cat cs p → is_in p (row_at cat cs i) ≡ true
  in_row p i a b c = row-run cat cs p i b ∙ rw (le-leb p i a, lt-ltb i (end_at cat cs p) c)

  pub row_in : (p i : ℕ) → i < length cs → is_in p (row_at cat cs i) ≡ true → (p ≤ i) × (i < end_at cat cs p)
  row_in p i l e =
      let f : (leb p i && ltb i (end_at cat cs p)) ≡ true = sym (row-run cat cs p i l) ∙ e in
      (leb-true p i (both_left (leb p i) (ltb i (end_at cat cs p)) f), ltb-true i (end_at cat cs p) (both_right (leb p i) (ltb i (end_at cat cs p)) f))

-- the cells before a change
pub level-front : (cat : Bytes) (cs ys : List Segment) (r k : ℕ) → r ≤ length cs → k < r → level_at cat (take r cs ++ ys) k ≡ level_at cat cs k
unfolding level_at
level-front cat cs ys r k a b =
    ap (segment_level cat) (get_or-append (take r cs) ys blank k (rw (length-take-le r cs a) b) ∙ get_or-take r cs k blank b)

pub level-new : (cat : Bytes) (cs : List Segment) (x : Segment) (ys : List Segment) (r : ℕ) → r ≤ length cs
    → level_at cat (take r cs ++ x ∷ ys) r ≡ segment_level cat x
unfolding level_at
level-new cat cs x ys r a = ap (segment_level cat) (get_or_at (take r cs) x ys blank r (length-take-le r cs a))

-- a cell put in the place of one of its type changes no level
pub levels-set : (cat : Bytes) (cs : List Segment) (i : ℕ) (x : Segment) → i < length cs → type_number x ≡ type_number (segment cs i)
    → level_at cat (set cs i x) ≡ level_at cat cs
unfolding level_at
levels-set cat cs i x l e = fun_ext go
  where
    go : (k : ℕ) → segment_level cat (segment (set cs i x) k) ≡ segment_level cat (segment cs k)
    go k = elim (is (eqb k i)) [
      | on h ↦
          let z : k ≡ i = eqb-true k i h in
          ap (λ (j : ℕ). segment_level cat (segment (set cs i x) j)) z ∙ ap (segment_level cat) (get_or-set_same cs i x blank l)
          ∙ ap (λ (t : ℕ). level cat (record { 0 = t })) e ∙ ap (λ (j : ℕ). segment_level cat (segment cs j)) (sym z)
      | off h ↦ ap (segment_level cat) (get_or-set_other cs i k x blank (eqb-false k i h))
    ]

-- the cells that a new one passes are at least as deep
module _ {A : Type 0} (lev : A → ℕ) (x : A) (stop : A → Bool) (d : A) where
  passes-deep : (c : A) → passes lev x stop c ≡ true → lev x ≤ lev c
  passes-deep c e = elim (is (ltb (lev x) (lev c))) [
    | on h ↦ omega (arith, ltb-true (lev x) (lev c) h)
    | off h ↦
        let f : (eqb (lev c) (lev x) && not (stop c)) ≡ true = rw h at e in
        omega (arith, eqb-true (lev c) (lev x) (both_left (eqb (lev c) (lev x)) (not (stop c)) f))
  ]

  pub spot-le : (cs : List A) → spot lev x stop cs ≤ length cs
  unfolding spot
  spot-le [] = omega arith
  spot-le (c ∷ cs) = elim (is (passes lev x stop c)) [
    | on e ↦ rw (spot_in lev x stop c cs e) (omega (arith, spot-le cs))
    | off e ↦ rw (spot_out lev x stop c cs e) (omega arith)
  ]

  pub spot-deep : (cs : List A) (k : ℕ) → k < spot lev x stop cs → lev x ≤ lev (get_or cs k d)
  unfolding spot
  spot-deep [] k l = absurd (omega arith)
  spot-deep (c ∷ cs) zero l = elim (is (passes lev x stop c)) [
    | on e ↦ passes-deep c e
    | off e ↦ absurd (let f : 0 < 0 = rw (spot_out lev x stop c cs e) at l in omega arith)
  ]
  spot-deep (c ∷ cs) (suc k) l = elim (is (passes lev x stop c)) [
    | on e ↦ spot-deep cs k (let f : suc k < suc (spot lev x stop cs) = rw (spot_in lev x stop c cs e) at l in omega arith)
    | off e ↦ absurd (let f : suc k < 0 = rw (spot_out lev x stop c cs e) at l in omega arith)
  ]
