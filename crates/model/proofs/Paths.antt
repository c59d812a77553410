-- The paths of a forest: the path of an ancestor is the front of a path, a path is as long as its end is deep, and the paths beneath a segment stand behind
-- its own. Assumes nothing.
use Rattle.terms.specs.Names.{Parentage}
use Rattle.std.specs.Prelude.{None, Some, Option}
use mathlib.Core.Path.{◌≡◌, refl, ap, sym, ◌∙◌}
use mathlib.Core.List.{List, [], ◌∷◌, ◌++◌, map, map-map}
use Prim.Native.Nat.{ℕ, zero, suc, ◌+◌, ◌-◌, ◌<◌, ◌≤◌}
use native.Mathlib.Omega.{arith}
use lib.ListN.{length, get_or, take, drop, length-append, length-map, length-drop, get_or-append}
use lib.Seq.{take-append-le, drop-append-le, take_at}
use Rattle.terms.specs.declared.Place.{Place}
use Rattle.terms.specs.declared.Place.TheVariants.{On, Before}
use Rattle.terms.specs.declared.Position.{Position}
use Rattle.forest.specs.Forest.{Forest, void, node, cells_of, inside, outside, side}
use Rattle.forest.specs.Rows.{map-append, map_f}
use Rattle.forest.specs.Shape.{Levelled}
use Rattle.forest.specs.Edit.{size, kids, kids-in, kids-out, kids-fit, drop_past, get_d_past}
use Rattle.forest.specs.Runs.{size-node}
use Rattle.forest.specs.Numbers.{range, length-range, get_d-range}
use Rattle.rules.specs.Block.{Bytes}
use Rattle.rules.specs.Cells.{Segment}
use Rattle.rules.specs.Matching.{path_to}
use Rattle.rules.specs.Paths.{Path, Current, on_path, in_gap, Standing}
use Rattle.rules.specs.Tree.{all_paths, path_at}
use Rattle.rules.proofs.Tree.{paths-cells}

pub get_d_map : {A B : Type 0} (f : A → B) (xs : List A) (i : ℕ) (a : A) (b : B) → i < length xs → get_or (map f xs) i b ≡ f (get_or xs i a)
get_d_map f [] i a b l = absurd (omega arith)
get_d_map f (x ∷ xs) zero a b l = refl
get_d_map f (x ∷ xs) (suc i) a b l = get_d_map f xs i a b (omega arith)

pub take-map : {A B : Type 0} (f : A → B) (n : ℕ) (xs : List A) → take n (map f xs) ≡ map f (take n xs)
take-map f zero xs = refl
take-map f (suc n) [] = refl
take-map f (suc n) (x ∷ xs) = ap (◌∷◌ (f x)) (take-map f n xs)

pub drop-map : {A B : Type 0} (f : A → B) (n : ℕ) (xs : List A) → drop n (map f xs) ≡ map f (drop n xs)
drop-map f zero xs = refl
drop-map f (suc n) [] = refl
drop-map f (suc n) (x ∷ xs) = drop-map f n xs

abbrev pub onto : ℕ → List Path → List Path
onto i ps = map (λ p. i ∷ p) ps

-- the path of segment i
abbrev pub path_of : ℕ → Forest ℕ → Path
path_of i f = get_or (all_paths f) i []

pub paths-count : (f : Forest ℕ) → length (all_paths f) ≡ size f
unfolding all_paths
paths-count void = refl
paths-count (node c k s) =
    ap suc (length-append (onto c (all_paths k)) (all_paths s)
    ∙ rw (length-map (all_paths k) (λ p. c ∷ p), paths-count k, paths-count s) (sym (length-append (cells_of k) (cells_of s))))

onto-count : (c : ℕ) (k : Forest ℕ) → length (onto c (all_paths k)) ≡ size k
onto-count c k = length-map (all_paths k) (λ p. c ∷ p) ∙ paths-count k

pub path-top : (c : ℕ) (k s : Forest ℕ) → path_of 0 (node c k s) ≡ c ∷ []
unfolding all_paths
path-top c k s = refl

pub path-in : (i c : ℕ) (k s : Forest ℕ) → i < size k → path_of (suc i) (node c k s) ≡ c ∷ path_of i k
unfolding all_paths
path-in i c k s l =
    get_or-append (onto c (all_paths k)) (all_paths s) [] i (rw onto-count l)
    ∙ get_d_map (λ p. c ∷ p) (all_paths k) i [] [] (rw paths-count l)

pub path-out : (i c : ℕ) (k s : Forest ℕ) → size k ≤ i → path_of (suc i) (node c k s) ≡ path_of (i - size k) s
unfolding all_paths
path-out i c k s l =
    get_d_past (onto c (all_paths k)) (all_paths s) i [] (rw onto-count l) ∙ ap (λ (n : ℕ). path_of (i - n) s) (onto-count c k)

-- this front of a path is the path of a segment of the forest
abbrev pub Front : ℕ → Path → Forest ℕ → Type 0
Front n p f = (j : ℕ) × (j < size f) × (take (suc n) p ≡ path_of j f)

front-in : (i n c : ℕ) (k s : Forest ℕ) → i < size k → n < suc (length (path_of i k)) → ((m : ℕ) → m < length (path_of i k) → Front m (path_of i k) k)
    → Front n (c ∷ path_of i k) (node c k s)
front-in i zero c k s l h r = (0, omega arith, sym (path-top c k s))
front-in i (suc n) c k s l h r =
    let q = r n (omega arith) in
    (suc q.0, omega (arith, q.1, size-node c k s), ap (◌∷◌ c) q.2 ∙ sym (path-in q.0 c k s q.1))

-- LAW: the front of a path is the path of an ancestor
pub path-front : (i n : ℕ) (f : Forest ℕ) → i < size f → n < length (path_of i f) → Front n (path_of i f) f
path-front i n void l h = absurd (omega arith)
path-front zero n (node c k s) l h =
    let m : n < 1 = rw (path-top c k s) at h in
    let z : n ≡ 0 = omega arith in
    (0, omega arith, rw (path-top c k s, z))
path-front (suc i) n (node c k s) l h = elim (side i (size k)) [
  | inside m ↦ rw (path-in i c k s m) (front-in i n c k s m (rw (path-in i c k s m) at h) (λ x y. path-front i x k m y))
  | outside m ↦
      let e : path_of (suc i) (node c k s) ≡ path_of (i - size k) s = path-out i c k s m in
      let r = path-front (i - size k) n s (omega (arith, size-node c k s)) (rw e at h) in
      let z : size k + r.0 - size k ≡ r.0 = omega arith in (
        suc (size k + r.0),
        omega (arith, r.1, size-node c k s),
        rw e (r.2 ∙ sym (path-out (size k + r.0) c k s (omega arith) ∙ ap (λ (x : ℕ). path_of x s) z)),
      )
]

-- LAW: where each child is one level below its parent, a path is as long as its end is deep
pub path-level : (lev : ℕ → ℕ) (n i : ℕ) (f : Forest ℕ) → Levelled lev n f → i < size f → length (path_of i f) + n ≡ suc (lev (get_or (cells_of f) i 0))
path-level lev n i void a l = absurd (omega arith)
path-level lev n zero (node c k s) a l = rw (path-top c k s) (omega (arith, a.0))
path-level lev n (suc i) (node c k s) a l = elim (side i (size k)) [
  | inside m ↦ rw (path-in i c k s m, get_or-append (cells_of k) (cells_of s) 0 i m) (omega (arith, path-level lev (suc n) i k a.1 m))
  | outside m ↦ rw (path-out i c k s m, get_d_past (cells_of k) (cells_of s) i 0 m) (path-level lev n (i - size k) s a.2 (omega (arith, size-node c k s)))
]

-- LAW: the paths beneath segment i are those that stand behind its own
pub paths-beneath : (i : ℕ) (f : Forest ℕ) → i < size f → map (λ p. path_of i f ++ p) (all_paths (kids i f)) ≡ take (size (kids i f)) (drop (suc i) (all_paths f))
unfolding all_paths kids
paths-beneath i void l = absurd (omega arith)
paths-beneath zero (node c k s) l = sym (take_at (onto c (all_paths k)) (all_paths s) (size k) (onto-count c k))
paths-beneath (suc i) (node c k s) l = elim (side i (size k)) [
  | inside m ↦
      let A : List Path = onto c (all_paths k) in
      let n : ℕ = size (kids i k) in
      let e : length A ≡ size k = onto-count c k in
      let fit : i + n < size k = kids-fit i k m in
      let h : length (drop (suc i) A) ≡ length A - suc i = length-drop (suc i) A in
      rw (path-in i c k s m, kids-in i c k s m)
      (sym (map-map (λ p. c ∷ p) (λ p. path_of i k ++ p) (all_paths (kids i k))) ∙ ap (onto c) (paths-beneath i k m)
      ∙ sym (take-map (λ p. c ∷ p) n (drop (suc i) (all_paths k))) ∙ ap (take n) (sym (drop-map (λ p. c ∷ p) (suc i) (all_paths k)))
      ∙ sym (ap (take n) (drop-append-le (suc i) A (all_paths s) (omega arith)) ∙ take-append-le n (drop (suc i) A) (all_paths s) (omega arith)))
  | outside m ↦
      let A : List Path = onto c (all_paths k) in
      let e : length A ≡ size k = onto-count c k in
      let q : suc i - length A ≡ suc (i - size k) = omega arith in
      rw (path-out i c k s m, kids-out i c k s m)
      (paths-beneath (i - size k) s (omega (arith, size-node c k s))
      ∙ ap (take (size (kids (i - size k) s))) (sym (drop_past A (all_paths s) (suc i) (omega arith) ∙ ap (λ (x : ℕ). drop x (all_paths s)) q)))
]

-- the levels of a forest of other things, as of cell numbers, carried over
pub levelled-map : {A B : Type 0} (g : A → B) (lev : B → ℕ) (n : ℕ) (f : Forest A) → Levelled lev n (map_f g f) → Levelled (λ x. lev (g x)) n f
levelled-map g lev n void a = tt
levelled-map g lev n (node c k s) a = (a.0, levelled-map g lev (suc n) k a.1, levelled-map g lev n s a.2)

-- and its cells and children
pub cells-map : {A B : Type 0} (g : A → B) (f : Forest A) → cells_of (map_f g f) ≡ map g (cells_of f)
cells-map g void = refl
cells-map g (node c k s) = ap (◌∷◌ (g c)) (rw (cells-map g k, cells-map g s) (sym (map-append g (cells_of k) (cells_of s))))

pub size-map : {A B : Type 0} (g : A → B) (f : Forest A) → size (map_f g f) ≡ size f
size-map g f = ap length (cells-map g f) ∙ length-map (cells_of f) g

pub kids-map : {A B : Type 0} (g : A → B) (i : ℕ) (f : Forest A) → kids i (map_f g f) ≡ map_f g (kids i f)
unfolding kids
kids-map g i void = refl
kids-map g zero (node c k s) = refl
kids-map g (suc i) (node c k s) =
    let e : size (map_f g k) ≡ size k = size-map g k in
    elim (side i (size k)) [
      | inside m ↦ kids-in i (g c) (map_f g k) (map_f g s) (omega arith) ∙ kids-map g i k ∙ sym (ap (map_f g) (kids-in i c k s m))
      | outside m ↦
          kids-out i (g c) (map_f g k) (map_f g s) (omega arith) ∙ ap (λ (n : ℕ). kids (i - n) (map_f g s)) e ∙ kids-map g (i - size k) s
          ∙ sym (ap (map_f g) (kids-out i c k s m))
    ]

-- a position, as the paths of the cells
module _ (cat : Bytes) (cs : List Segment) where
  abbrev pub placed : Place → Current
  placed (On c) = on_path (path_to cat cs c.0)
  placed (Before c) = in_gap c.0

  abbrev pub parented : Parentage → Option Path
  parented None = None
  parented (Some c) = Some (path_to cat cs c.0)

  abbrev pub paths : Position → Standing
  paths pos = record { current = placed pos.place; parent = parented pos.parentage; hold = pos.hold }

  pub path-of : (i : ℕ) → i < length cs → path_at cat cs i ≡ path_to cat cs i
  path-of i l =
      let z : 0 + i ≡ i = omega arith in
      ap (λ (ps : List Path). get_or ps i []) (paths-cells cat cs)
      ∙ get_d_map (path_to cat cs) (range 0 (length cs)) i 0 [] (rw length-range l)
      ∙ ap (path_to cat cs) (get_d-range 0 (length cs) i 0 l ∙ z)
