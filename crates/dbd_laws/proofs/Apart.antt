-- Names that differ: one more name that is not there yet keeps them apart. Assumes nothing.
use mathlib.Core.Path.{◌≡◌, refl, ap, sym, ◌∙◌}
use mathlib.Core.Bool.{true, false}
use mathlib.Core.List.{List, [], ◌∷◌, ◌++◌}
use Prim.Native.Nat.{ℕ, suc}
use native.Mathlib.Omega.{arith}
use lib.Dec.{ltb, eqb}
use lib.ListN.{length}
use borrow.Author.Tests.{eqb-true, eqb-false, eq-eqb, ne_eqb, lt-ltb}
use Rattle.forest.specs.Good.{on, off, is}
use Rattle.rules.specs.Block.{Bytes, byte, same_bytes}
use Rattle.statements.specs.Draft.{place_from, place_of, has, own_names}
use Rattle.statements.specs.Dbd.{distinct}
use Rattle.statements.proofs.Words.{clash}

same_in : (x y : ℕ) (xs ys : Bytes) → eqb x y ≡ true → same_bytes (x ∷ xs) (y ∷ ys) ≡ same_bytes xs ys
unfolding same_bytes
same_in x y xs ys h = rw (same_bytes, h)

same_out : (x y : ℕ) (xs ys : Bytes) → eqb x y ≡ false → same_bytes (x ∷ xs) (y ∷ ys) ≡ false
unfolding same_bytes
same_out x y xs ys h = rw (same_bytes, h)

-- which of two rows comes first does not matter
same-swap : (xs ys : Bytes) → same_bytes xs ys ≡ same_bytes ys xs
unfolding same_bytes
same-swap [] [] = refl
same-swap [] (y ∷ ys) = refl
same-swap (x ∷ xs) [] = refl
same-swap (x ∷ xs) (y ∷ ys) = elim (is (eqb x y)) [
  | on h ↦ same_in x y xs ys h ∙ same-swap xs ys ∙ sym (same_in y x ys xs (eq-eqb y x (sym (eqb-true x y h))))
  | off h ↦ same_out x y xs ys h ∙ sym (same_out y x ys xs (ne_eqb y x (λ q. eqb-false x y h (sym q))))
]

place-on : (i : ℕ) (n x : Bytes) (xs : List Bytes) → same_bytes n x ≡ true → place_from i n (x ∷ xs) ≡ i
unfolding place_from
place-on i n x xs h = rw (place_from, h)

place-off : (i : ℕ) (n x : Bytes) (xs : List Bytes) → same_bytes n x ≡ false → place_from i n (x ∷ xs) ≡ place_from (suc i) n xs
unfolding place_from
place-off i n x xs h = rw (place_from, h)

-- from where the places are counted does not matter
place-from : (i j : ℕ) (n : Bytes) (xs : List Bytes) → ltb 0 (place_from (suc i) n xs) ≡ ltb 0 (place_from (suc j) n xs)
unfolding place_from
place-from i j n [] = refl
place-from i j n (x ∷ xs) = elim (is (same_bytes n x)) [
  | on h ↦ rw (place-on (suc i) n x xs h, place-on (suc j) n x xs h) (lt-ltb 0 (suc i) (omega arith) ∙ sym (lt-ltb 0 (suc j) (omega arith)))
  | off h ↦ rw (place-off (suc i) n x xs h, place-off (suc j) n x xs h) (place-from (suc i) (suc j) n xs)
]

has-nil : (n : Bytes) → has n [] ≡ false
unfolding has place_of place_from
has-nil n = refl

pub has_on : (n x : Bytes) (xs : List Bytes) → same_bytes n x ≡ true → has n (x ∷ xs) ≡ true
unfolding has place_of
has_on n x xs h = ap (ltb 0) (place-on 1 n x xs h)

pub has-off : (n x : Bytes) (xs : List Bytes) → same_bytes n x ≡ false → has n (x ∷ xs) ≡ has n xs
unfolding has place_of
has-off n x xs h = ap (ltb 0) (place-off 1 n x xs h) ∙ place-from 1 0 n xs

-- a name that is not in a row is none of it
pub has-none : (n x : Bytes) (xs : List Bytes) → has n (x ∷ xs) ≡ false → (same_bytes n x ≡ false) × (has n xs ≡ false)
has-none n x xs e = elim (is (same_bytes n x)) [
  | on h ↦ clash (sym e ∙ has_on n x xs h)
  | off h ↦ (h, sym (has-off n x xs h) ∙ e)
]

has-snoc : (n : Bytes) (xs : List Bytes) (y : Bytes) → has n xs ≡ false → same_bytes n y ≡ false → has n (xs ++ (y ∷ [])) ≡ false
has-snoc n [] y e f = has-off n y [] f ∙ e
has-snoc n (x ∷ xs) y e f = let p = has-none n x xs e in has-off n x (xs ++ (y ∷ [])) p.0 ∙ has-snoc n xs y p.1 f

pub distinct-in : (x : Bytes) (xs : List Bytes) → has x xs ≡ false → distinct (x ∷ xs) ≡ distinct xs
unfolding distinct
distinct-in x xs h = rw (distinct, h)

distinct-out : (x : Bytes) (xs : List Bytes) → has x xs ≡ true → distinct (x ∷ xs) ≡ false
unfolding distinct
distinct-out x xs h = rw (distinct, h)

pub distinct-parts : (x : Bytes) (xs : List Bytes) → distinct (x ∷ xs) ≡ true → (has x xs ≡ false) × (distinct xs ≡ true)
distinct-parts x xs e = elim (is (has x xs)) [
  | on h ↦ clash (sym (distinct-out x xs h) ∙ e)
  | off h ↦ (h, sym (distinct-in x xs h) ∙ e)
]

pub distinct_none : distinct [] ≡ true
unfolding distinct
distinct_none = refl

-- one name more
pub distinct_snoc : (xs : List Bytes) (y : Bytes) → distinct xs ≡ true → has y xs ≡ false → distinct (xs ++ (y ∷ [])) ≡ true
distinct_snoc [] y e f = distinct-in y [] f ∙ distinct_none
distinct_snoc (x ∷ xs) y e f =
    let p = distinct-parts x xs e in
    let q = has-none y x xs f in
    distinct-in x (xs ++ (y ∷ [])) (has-snoc x xs y p.0 (same-swap x y ∙ q.0)) ∙ distinct_snoc xs y p.1 q.1

-- the names of the fields of a type, when one field more is listed: it is of that type, or of another
module _ (t : ℕ) where
  own_in : (f : Bytes) (fs : List Bytes) (n : Bytes) (ns : List Bytes) → eqb (byte f 0) t ≡ true → own_names t (f ∷ fs) (n ∷ ns) ≡ n ∷ own_names t fs ns
  unfolding own_names
  own_in f fs n ns h = rw (own_names, h)

  own_out : (f : Bytes) (fs : List Bytes) (n : Bytes) (ns : List Bytes) → eqb (byte f 0) t ≡ false → own_names t (f ∷ fs) (n ∷ ns) ≡ own_names t fs ns
  unfolding own_names
  own_out f fs n ns h = rw (own_names, h)

  own-none : (ns : List Bytes) → own_names t [] ns ≡ []
  unfolding own_names
  own-none ns = refl

  pub own-snoc-in : (fs ns : List Bytes) (f n : Bytes) → length ns ≡ length fs → eqb (byte f 0) t ≡ true
      → own_names t (fs ++ (f ∷ [])) (ns ++ (n ∷ [])) ≡ own_names t fs ns ++ (n ∷ [])
  own-snoc-in [] [] f n l h = own_in f [] n [] h ∙ rw (own-none [])
  own-snoc-in [] (m ∷ ns) f n l h = absurd (omega arith)
  own-snoc-in (g ∷ fs) [] f n l h = absurd (omega arith)
  own-snoc-in (g ∷ fs) (m ∷ ns) f n l h = elim (is (eqb (byte g 0) t)) [
    | on e ↦ rw (own_in g (fs ++ (f ∷ [])) m (ns ++ (n ∷ [])) e, own_in g fs m ns e) (ap (◌∷◌ m) (own-snoc-in fs ns f n (omega arith) h))
    | off e ↦ rw (own_out g (fs ++ (f ∷ [])) m (ns ++ (n ∷ [])) e, own_out g fs m ns e) (own-snoc-in fs ns f n (omega arith) h)
  ]

  pub own-snoc-out : (fs ns : List Bytes) (f n : Bytes) → length ns ≡ length fs → eqb (byte f 0) t ≡ false
      → own_names t (fs ++ (f ∷ [])) (ns ++ (n ∷ [])) ≡ own_names t fs ns
  own-snoc-out [] [] f n l h = own_out f [] n [] h
  own-snoc-out [] (m ∷ ns) f n l h = absurd (omega arith)
  own-snoc-out (g ∷ fs) [] f n l h = absurd (omega arith)
  own-snoc-out (g ∷ fs) (m ∷ ns) f n l h = elim (is (eqb (byte g 0) t)) [
    | on e ↦ rw (own_in g (fs ++ (f ∷ [])) m (ns ++ (n ∷ [])) e, own_in g fs m ns e) (ap (◌∷◌ m) (own-snoc-out fs ns f n (omega arith) h))
    | off e ↦ rw (own_out g (fs ++ (f ∷ [])) m (ns ++ (n ∷ [])) e, own_out g fs m ns e) (own-snoc-out fs ns f n (omega arith) h)
  ]
