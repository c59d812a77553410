-- Rows of entries cut and joined, and a name in a row of names that differ. Assumes nothing.
use mathlib.Core.Path.{◌≡◌, refl, ap, sym, ◌∙◌}
use mathlib.Core.Bool.{true, false}
use mathlib.Core.List.{List, [], ◌∷◌, ◌++◌}
use Prim.Native.Nat.{ℕ, zero, suc, ◌+◌, ◌*◌}
use native.Mathlib.Omega.{arith}
use lib.Dec.{ltb, eqb}
use borrow.Author.Tests.{eq-eqb, lt-ltb}
use lib.ListN.{length}
use Rattle.forest.specs.Good.{on, off, is}
use Rattle.rules.specs.Block.{Bytes, byte, part, same_bytes}
use Rattle.statements.specs.Draft.{rows, place_from, place_of, has, own_names}
use Rattle.statements.specs.Dbd.{distinct}
use Rattle.statements.proofs.Words.{clash}
use Rattle.statements.proofs.Written.{same-equal, same_in}

-- entries by number
pub rows-cons : (w : ℕ) (b : Bytes) (i n : ℕ) → rows w b i (suc n) ≡ part b i w ∷ rows w b (i + w) n
unfolding rows
rows-cons w b i n = refl

pub rows_none : (w : ℕ) (b : Bytes) (i : ℕ) → rows w b i 0 ≡ []
unfolding rows
rows_none w b i = refl

pub rows-add : (w : ℕ) (b : Bytes) (i m n : ℕ) → rows w b i (m + n) ≡ rows w b i m ++ rows w b (i + w * m) n
unfolding rows
rows-add w b i zero n = let z : i + w * 0 ≡ i = omega arith in let y : 0 + n ≡ n = omega arith in rw (z, y)
rows-add w b i (suc m) n =
    let z : i + w + w * m ≡ i + w * suc m = omega arith in
    let y : suc m + n ≡ suc (m + n) = omega arith in
    ap (rows w b i) y ∙ ap (◌∷◌ (part b i w)) (rows-add w b (i + w) m n ∙ ap (λ (x : ℕ). rows w b (i + w) m ++ rows w b x n) z)

-- the entry behind m others, and what follows it
pub rows_split : (w : ℕ) (b : Bytes) (i m n : ℕ) → rows w b i (m + suc n) ≡ rows w b i m ++ (part b (i + w * m) w ∷ rows w b (i + w * m + w) n)
unfolding rows
rows_split w b i m n = rows-add w b i m (suc n)

pub same_self : (xs : Bytes) → same_bytes xs xs ≡ true
unfolding same_bytes
same_self [] = refl
same_self (x ∷ xs) = same_in x x xs xs (eq-eqb x x refl) ∙ same_self xs

-- a name's place
place_here : (i : ℕ) (n x : Bytes) (xs : List Bytes) → same_bytes n x ≡ true → place_from i n (x ∷ xs) ≡ i
unfolding place_from
place_here i n x xs h = rw (place_from, h)

place-on : (i : ℕ) (n x : Bytes) (xs : List Bytes) → same_bytes n x ≡ false → place_from i n (x ∷ xs) ≡ place_from (suc i) n xs
unfolding place_from
place-on i n x xs h = rw (place_from, h)

-- where the count begins does not decide whether it is there
place-from : (i j : ℕ) (n : Bytes) (xs : List Bytes) → ltb 0 (place_from (suc i) n xs) ≡ ltb 0 (place_from (suc j) n xs)
unfolding place_from
place-from i j n [] = refl
place-from i j n (x ∷ xs) = elim (is (same_bytes n x)) [
  | on h ↦ rw (place_here (suc i) n x xs h, place_here (suc j) n x xs h, lt-ltb 0 (suc i) (omega arith), lt-ltb 0 (suc j) (omega arith))
  | off h ↦ rw (place-on (suc i) n x xs h, place-on (suc j) n x xs h) (place-from (suc i) (suc j) n xs)
]

pub has-none : (n : Bytes) → has n [] ≡ false
unfolding has place_of place_from
has-none n = refl

has_here : (n x : Bytes) (xs : List Bytes) → same_bytes n x ≡ true → has n (x ∷ xs) ≡ true
unfolding has place_of
has_here n x xs h = ap (ltb 0) (place_here 1 n x xs h)

has_on : (n x : Bytes) (xs : List Bytes) → same_bytes n x ≡ false → has n (x ∷ xs) ≡ has n xs
unfolding has place_of
has_on n x xs h = ap (ltb 0) (place-on 1 n x xs h) ∙ place-from 1 0 n xs

-- a name that stands somewhere is there
has-middle : (x : Bytes) (xs ys : List Bytes) → has x (xs ++ (x ∷ ys)) ≡ true
has-middle x [] ys = has_here x x ys (same_self x)
has-middle x (y ∷ xs) ys = elim (is (same_bytes x y)) [
  | on h ↦ has_here x y (xs ++ (x ∷ ys)) h
  | off h ↦ has_on x y (xs ++ (x ∷ ys)) h ∙ has-middle x xs ys
]

distinct-out : (x : Bytes) (xs : List Bytes) → has x xs ≡ true → distinct (x ∷ xs) ≡ false
unfolding distinct
distinct-out x xs h = rw (distinct, h)

distinct-in : (x : Bytes) (xs : List Bytes) → has x xs ≡ false → distinct (x ∷ xs) ≡ distinct xs
unfolding distinct
distinct-in x xs h = rw (distinct, h)

-- of names that differ none stands among those before it
pub distinct-middle : (xs : List Bytes) (x : Bytes) (ys : List Bytes) → distinct (xs ++ (x ∷ ys)) ≡ true → has x xs ≡ false
distinct-middle [] x ys e = has-none x
distinct-middle (y ∷ xs) x ys e = elim (is (has y (xs ++ (x ∷ ys)))) [
  | on h ↦ clash (sym (distinct-out y (xs ++ (x ∷ ys)) h) ∙ e)
  | off h ↦ elim (is (same_bytes x y)) [
    | on s ↦ (let q : x ≡ y = same-equal x y s in
        clash (sym h ∙ ap (λ (z : Bytes). has z (xs ++ (x ∷ ys))) (sym q) ∙ has-middle x xs ys))
    | off s ↦ has_on x y xs s ∙ distinct-middle xs x ys (sym (distinct-in y (xs ++ (x ∷ ys)) h) ∙ e)
  ]
]

-- and its place is the first one behind them
pub place-behind : (i : ℕ) (xs : List Bytes) (x : Bytes) (ys : List Bytes) → has x xs ≡ false → place_from i x (xs ++ (x ∷ ys)) ≡ i + length xs
place-behind i [] x ys e = place_here i x x ys (same_self x) ∙ omega arith
place-behind i (y ∷ xs) x ys e = elim (is (same_bytes x y)) [
  | on s ↦ clash (sym e ∙ has_here x y xs s)
  | off s ↦ place-on i x y (xs ++ (x ∷ ys)) s ∙ place-behind (suc i) xs x ys (sym (has_on x y xs s) ∙ e) ∙ omega arith
]

-- the names of one type's fields
own-here : (t : ℕ) (f : Bytes) (fs : List Bytes) (n : Bytes) (ns : List Bytes) → eqb (byte f 0) t ≡ true → own_names t (f ∷ fs) (n ∷ ns) ≡ n ∷ own_names t fs ns
unfolding own_names
own-here t f fs n ns h = rw (own_names, h)

own_on : (t : ℕ) (f : Bytes) (fs : List Bytes) (n : Bytes) (ns : List Bytes) → eqb (byte f 0) t ≡ false → own_names t (f ∷ fs) (n ∷ ns) ≡ own_names t fs ns
unfolding own_names
own_on t f fs n ns h = rw (own_names, h)

own-append : (t : ℕ) (fs gs ns ms : List Bytes) → length fs ≡ length ns → own_names t (fs ++ gs) (ns ++ ms) ≡ own_names t fs ns ++ own_names t gs ms
unfolding own_names
own-append t [] gs [] ms l = refl
own-append t [] gs (n ∷ ns) ms l = absurd (omega arith)
own-append t (f ∷ fs) gs [] ms l = absurd (omega arith)
own-append t (f ∷ fs) gs (n ∷ ns) ms l = elim (is (eqb (byte f 0) t)) [
  | on h ↦ rw (own-here t f (fs ++ gs) n (ns ++ ms) h, own-here t f fs n ns h) (ap (◌∷◌ n) (own-append t fs gs ns ms (omega arith)))
  | off h ↦ rw (own_on t f (fs ++ gs) n (ns ++ ms) h, own_on t f fs n ns h) (own-append t fs gs ns ms (omega arith))
]

-- a field's name is none of those of the fields of its type before it
pub own-differs : (t : ℕ) (fs : List Bytes) (f : Bytes) (gs ns : List Bytes) (n : Bytes) (ms : List Bytes) → length fs ≡ length ns → byte f 0 ≡ t
    → distinct (own_names t (fs ++ (f ∷ gs)) (ns ++ (n ∷ ms))) ≡ true → has n (own_names t fs ns) ≡ false
own-differs t fs f gs ns n ms l h e =
    distinct-middle (own_names t fs ns) n (own_names t gs ms)
    (sym (ap distinct (own-append t fs (f ∷ gs) ns (n ∷ ms) l
    ∙ ap (λ (x : List Bytes). own_names t fs ns ++ x) (own-here t f gs n ms (eq-eqb (byte f 0) t h)))) ∙ e)
