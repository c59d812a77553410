-- In a good table no cell is more than one level deeper than the cell before it, and a cell's type alone says with which level of a completed list
-- it has to agree. Assumes nothing.
use mathlib.Core.Path.{◌≡◌, refl, ap, sym, ◌∙◌, subst}
use mathlib.Core.Bool.{Bool, true, false, ◌&&◌, or-false}
use mathlib.Core.List.{List, [], ◌∷◌, ◌++◌, map, reverse, reverse-cons, append_assoc, append-nil}
use Prim.Native.Nat.{ℕ, zero, suc, ◌-◌, ◌<◌, ◌≤◌}
use native.Mathlib.Omega.{arith}
use lib.Dec.{eqb}
use lib.ListN.{length, get_or, drop, length-append, length-reverse, drop_of_length-le}
use lib.Seq.{drop-append-le, drop_at}
use borrow.Author.Tests.{eq-eqb, ne_eqb, eqb-true, eqb-false}
use Rattle.terms.specs.declared.TypeCode.{TypeCode}
use Rattle.terms.specs.declared.Argument.{Argument}
use Rattle.terms.specs.Names.{code}
use Rattle.forest.specs.Forest.{Forest, void, node, cells_of, forest_of, inside, outside, side}
use Rattle.forest.proofs.Forest.{cells-forest}
use Rattle.forest.specs.Shape.{Levelled}
use Rattle.forest.specs.Good.{on, off, is, formed-wf, levelled}
use Rattle.forest.specs.Numbers.{is_in}
use Rattle.forest.specs.Types as Types
use Rattle.rules.specs.Block.{Bytes}
use Rattle.rules.specs.Catalogue.{types, is_type, lineage, level, good_catalogue}
use Rattle.rules.specs.Cells.{Segment, segment, blank, type_number, is_child, siblings, segment_level, good_listing, level_at}
use Rattle.rules.specs.Arguments.{Level, asked_of, complete, last_argument, get_levels}
use Rattle.rules.specs.Matching.{agrees, satisfies, is_implied}
use Rattle.rules.proofs.Catalogue.{par, good-lower}
use Rattle.search.proofs.Rows.{Regular}
use Rattle.search.proofs.Carry.{head_agrees, head_implied}

-- each cell at most one level deeper than the one before it, the first at most one deeper than b
module _ {A : Type 0} (lev : A → ℕ) where
  abbrev Steps : ℕ → List A → Type 0
  Steps b [] = Unit {0}
  Steps b (x ∷ xs) = (1 ≤ lev x) × (lev x ≤ suc b) × Steps (lev x) xs

  steps-append : (m : ℕ) (f : Forest A) (xs : List A) → 1 ≤ m → Levelled lev m f → ((b : ℕ) → m ≤ suc b → Steps b xs)
      → (b : ℕ) → m ≤ suc b → Steps b (cells_of f ++ xs)
  steps-append m void xs a w g b h = g b h
  steps-append m (node c k s) xs a w g b h = (
    omega (arith, w.0),
    omega (arith, w.0),
    rw (append_assoc (cells_of k) (cells_of s) xs)
        (steps-append (suc m) k (cells_of s ++ xs) (omega arith) w.1 (λ d l. steps-append m s xs a w.2 g d (omega arith)) (lev c) (omega (arith, w.0))),
  )

  module _ (d : A) where
    steps-at : (b : ℕ) (xs : List A) → Steps b xs → (i : ℕ) → i < length xs → 1 ≤ lev (get_or xs i d)
    steps-at b [] s i h = absurd (omega arith)
    steps-at b (x ∷ xs) s zero h = s.0
    steps-at b (x ∷ xs) s (suc i) h = steps-at (lev x) xs s.2 i (omega arith)

    steps_first : (b : ℕ) (xs : List A) → Steps b xs → 0 < length xs → lev (get_or xs 0 d) ≤ suc b
    steps_first b [] s h = absurd (omega arith)
    steps_first b (x ∷ xs) s h = s.1

    steps_next : (b : ℕ) (xs : List A) → Steps b xs → (i : ℕ) → suc i < length xs → lev (get_or xs (suc i) d) ≤ suc (lev (get_or xs i d))
    steps_next b [] s i h = absurd (omega arith)
    steps_next b (x ∷ xs) s zero h = steps_first (lev x) xs s.2 (omega arith)
    steps_next b (x ∷ xs) s (suc i) h = steps_next (lev x) xs s.2 i (omega arith)

module _ (cat : Bytes) (g : good_catalogue cat ≡ true) where
  levels-steps : (cs : List Segment) → good_listing cat cs ≡ true → Steps (segment_level cat) 0 cs
  unfolding good_listing is_child is_type level lineage Types.level Types.lineage Types.lineage_from
  levels-steps cs e =
      let F : Forest Segment = forest_of (segment_level cat) cs in
      let w = formed-wf type_number (is_child cat) (siblings cat) 0 F e in
      let l : Levelled (segment_level cat) 1 F =
      levelled type_number (is_child cat) (siblings cat)
      (λ p s h. Types.rise (par cat) (types cat) (good-lower cat g) p (type_number s) h)
      (λ p q s h k. Types.one (par cat) (types cat) (good-lower cat g) p q (type_number s) h k)
      (Types.level (par cat))
      (λ p s h. Types.deeper (par cat) (types cat) (good-lower cat g) p (type_number s) h) 0 F w in
      subst (Steps (segment_level cat) 0) (append-nil (cells_of F) ∙ cells-forest (segment_level cat) cs)
      (steps-append (segment_level cat) 1 F [] (omega arith) l (λ b h. tt) 0 (omega arith))

  -- LAW: a good listing is regular
  pub regular : (cs : List Segment) → good_listing cat cs ≡ true → Regular (level_at cat cs) (length cs)
  unfolding level_at
  regular cs e zero h = let s = levels-steps cs e in (steps-at (segment_level cat) blank 0 cs s 0 h, steps_first (segment_level cat) blank 0 cs s h)
  regular cs e (suc i) h = let s = levels-steps cs e in (steps-at (segment_level cat) blank 0 cs s (suc i) h, steps_next (segment_level cat) blank 0 cs s i h)

-- x stands first
abbrev is_first : ℕ → List ℕ → Bool
is_first x [] = false
is_first x (y ∷ ys) = eqb x y

first-append : (x : ℕ) (xs ys : List ℕ) → 0 < length xs → is_first x (xs ++ ys) ≡ is_first x xs
first-append x [] ys h = absurd (omega arith)
first-append x (y ∷ xs) ys h = refl

module _ (p : ℕ → ℕ) (top : ℕ) (low : Types.lower p top ≡ true) where
  abbrev rank : ℕ → ℕ
  rank u = length (Types.lineage p u)

  none_in : (x : ℕ) → is_in x (Types.lineage p 0) ≡ false
  unfolding Types.lineage Types.lineage_from
  none_in x = refl

  none_first : (x n : ℕ) → is_first x (drop n (reverse (Types.lineage p 0))) ≡ false
  unfolding Types.lineage Types.lineage_from
  none_first x zero = refl
  none_first x (suc n) = refl

  drop_all : (x n : ℕ) (xs : List ℕ) → length xs ≤ n → is_first x (drop n xs) ≡ false
  drop_all x n xs h = rw (drop_of_length-le xs {i = n} h)

  -- from the root down, type x stands in a lineage at its own level or not at all
  lineage-first : (n x u : ℕ) → 1 ≤ rank x → u < n → u ≤ top → is_first x (drop (rank x - 1) (reverse (Types.lineage p u))) ≡ is_in x (Types.lineage p u)
  lineage-first zero x u a h t = absurd (omega arith)
  lineage-first (suc n) x zero a h t = none_first x (rank x - 1) ∙ sym (none_in x)
  lineage-first (suc n) x (suc u) a h t =
      let e : Types.lineage p (suc u) ≡ suc u ∷ Types.lineage p (p (suc u)) = Types.lineage-step p top low (suc u) (omega arith) t in
      let R : List ℕ = reverse (Types.lineage p (p (suc u))) in
      let b : p (suc u) < suc u = Types.lower-at p top (suc u) low (omega arith) t in
      let i : is_first x (drop (rank x - 1) R) ≡ is_in x (Types.lineage p (p (suc u))) = lineage-first n x (p (suc u)) a (omega arith) (omega arith) in
      let r : reverse (Types.lineage p (suc u)) ≡ R ++ (suc u ∷ []) = ap reverse e ∙ reverse-cons (suc u) (Types.lineage p (p (suc u))) in
      let m : rank (suc u) ≡ suc (length R) = ap length e ∙ ap suc (sym (length-reverse (Types.lineage p (p (suc u))))) in
      ap (λ (q : List ℕ). is_first x (drop (rank x - 1) q)) r ∙ (elim (side (rank x - 1) (length R)) [
        | inside l ↦
            let ne : (x ≡ suc u) → ⊥ = (λ z. let y : rank x ≡ rank (suc u) = ap rank z in omega arith) in
            ap (is_first x) (drop-append-le (rank x - 1) R (suc u ∷ []) (omega arith))
            ∙ first-append x (drop (rank x - 1) R) (suc u ∷ []) (some (rank x - 1) R l)
            ∙ i ∙ sym (ap (is_in x) e ∙ rw (ne_eqb x (suc u) ne))
        | outside l ↦
            let z : is_in x (Types.lineage p (p (suc u))) ≡ false = sym i ∙ drop_all x (rank x - 1) R l in
            elim (side (length R) (rank x - 1)) [
              | inside k ↦
                  let ne : (x ≡ suc u) → ⊥ = (λ z. let y : rank x ≡ rank (suc u) = ap rank z in omega arith) in
                  drop_all x (rank x - 1) (R ++ (suc u ∷ [])) (omega (arith, length-append R (suc u ∷ [])))
                  ∙ sym (ap (is_in x) e ∙ rw (ne_eqb x (suc u) ne, z))
              | outside k ↦
                  let q : length R ≡ rank x - 1 = omega arith in
                  ap (is_first x) (drop_at R (suc u ∷ []) (rank x - 1) q) ∙ sym (ap (is_in x) e ∙ (rw z (or-false (eqb x (suc u)))))
            ]
      ])
    where
      some : (n : ℕ) (xs : List ℕ) → n < length xs → 0 < length (drop n xs)
      some zero xs h = h
      some (suc n) [] h = absurd (omega arith)
      some (suc n) (y ∷ xs) h = some n xs (omega arith)

module _ (cat list : Bytes) (ar : List Argument) where
  abbrev level_of : ℕ → Level
  level_of u = record { code = code u; asked = asked_of cat list ar (code u) }

  drop-map : (n : ℕ) (us : List ℕ) → drop n (map level_of us) ≡ map level_of (drop n us)
  drop-map zero us = refl
  drop-map (suc n) [] = refl
  drop-map (suc n) (u ∷ us) = drop-map n us

  -- a segment against the first of these levels: by its type, and then by its bytes
  module _ (cs : List Segment) (i : ℕ) where
    abbrev own : TypeCode
    own = (segment cs i).code

    first-agrees : (us : List ℕ) → head_agrees cat cs (map level_of us) i ≡ (is_first own.0 us && satisfies cat (segment cs i) (asked_of cat list ar own))
    unfolding agrees
    first-agrees [] = refl
    first-agrees (u ∷ us) = elim (is (eqb own.0 u)) [
      | on e ↦ (let z : u ≡ own.0 = sym (eqb-true own.0 u e) in rw (e, eq-eqb u own.0 z) (ap (λ (v : ℕ). satisfies cat (segment cs i) (asked_of cat list ar (code v))) z))
      | off e ↦ rw (e, ne_eqb u own.0 (λ z. eqb-false own.0 u e (sym z)))
    ]

    first-implied : (us : List ℕ) → is_first own.0 us ≡ true → head_implied cat cs (map level_of us) ≡ is_implied (asked_of cat list ar own)
    first-implied [] e = absurd (let z : ◌≡◌ {A = ℕ} 0 1 = cc in omega arith)
    first-implied (u ∷ us) e = ap (λ (v : ℕ). is_implied (asked_of cat list ar (code v))) (sym (eqb-true own.0 u e))

    module _ (g : good_catalogue cat ≡ true) (t : TypeCode) (known : t.0 ≤ types cat) (some : 1 ≤ level_at cat cs i) where
      own_first : is_first own.0 (drop (level_at cat cs i - 1) (reverse (lineage cat t))) ≡ is_in own.0 (lineage cat t)
      unfolding level_at level lineage
      own_first = lineage-first (par cat) (types cat) (good-lower cat g) (suc t.0) own.0 t.0 some (omega arith) known

      own-levels : drop (level_at cat cs i - 1) (complete cat list ar t) ≡ map level_of (drop (level_at cat cs i - 1) (reverse (lineage cat t)))
      unfolding complete
      own-levels = drop-map (level_at cat cs i - 1) (reverse (lineage cat t))

      -- LAW: whether a cell agrees with the level of a completed list that is its own is seen from the segment alone
      pub agrees-own : head_agrees cat cs (drop (level_at cat cs i - 1) (complete cat list ar t)) i
          ≡ (is_in own.0 (lineage cat t) && satisfies cat (segment cs i) (asked_of cat list ar own))
      agrees-own =
          ap (λ (ls : List Level). head_agrees cat cs ls i) own-levels ∙ first-agrees (drop (level_at cat cs i - 1) (reverse (lineage cat t)))
          ∙ ap (λ (b : Bool). b && satisfies cat (segment cs i) (asked_of cat list ar own)) own_first

      pub implied-own : is_in own.0 (lineage cat t) ≡ true
          → head_implied cat cs (drop (level_at cat cs i - 1) (complete cat list ar t)) ≡ is_implied (asked_of cat list ar own)
      implied-own e =
          ap (head_implied cat cs) own-levels ∙ first-implied (drop (level_at cat cs i - 1) (reverse (lineage cat t))) (own_first ∙ e)

-- LAW: a get's list is completed down to the type of its last argument; no type, for the empty list
pub get-levels : (cat list : Bytes) (ar : List Argument) → get_levels cat list ar ≡ complete cat list ar (last_argument ar).code
unfolding complete lineage Types.lineage Types.lineage_from
get-levels cat list [] = refl
get-levels cat list (a ∷ ar) = refl
