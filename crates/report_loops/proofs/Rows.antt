-- A cell with its ancestors, in a good table: their types are the lineage of the cell's type, and the row of a cell in p's run goes through p.
-- Assumes nothing.
use mathlib.Core.Path.{◌≡◌, refl, ap, sym, ◌∙◌, subst}
use mathlib.Core.Bool.{Bool, true, false, ◌||◌}
use mathlib.Core.List.{List, [], ◌∷◌, ◌++◌, map}
use Prim.Native.Nat.{ℕ, zero, suc, ◌<◌, ◌≤◌}
use native.Mathlib.Omega.{arith}
use lib.Dec.{eqb}
use lib.ListN.{length, get_or}
use borrow.Author.Tests.{eq-eqb, eqb-true}
use Rattle.terms.specs.declared.TypeCode.{TypeCode}
use Rattle.terms.specs.Names.{code}
use Rattle.forest.specs.Forest.{Forest, void, node, inside, outside, side, forest_of}
use Rattle.forest.specs.Rows.{rows, back, back_in, back-out, map_f}
use Rattle.forest.specs.Good.{on, off, is, both_left, both_right, Wf, formed-wf}
use Rattle.forest.specs.Numbers.{range, down_to, is_in, ancestors, run-ancestor}
use Rattle.forest.proofs.Numbers.{row_number, length-rows}
use Rattle.forest.specs.Types as Types
use Rattle.rules.specs.Block.{Bytes}
use Rattle.rules.specs.Catalogue.{parent_of, is_type, lineage, good_catalogue}
use Rattle.rules.specs.Cells.{Segment, segment, type_number, is_child, siblings, segment_level, good_listing, level_at, run_at, end_at, row_at}
use Rattle.rules.specs.Tree.{data_part, segments}
use Rattle.rules.proofs.Tree.{segments-cells}
use Rattle.catalogue.proofs.Hierarchy.{type-range, parent-before, lineage-up}
use Rattle.report_loops.proofs.Asked.{All}

all_append : {X : Type 0} (P : X → Type 0) (xs ys : List X) → All P xs → All P ys → All P (xs ++ ys)
all_append P [] ys a b = b
all_append P (x ∷ xs) ys a b = (a.0, all_append P xs ys a.1 b)

all_get_d : {X : Type 0} (P : X → Type 0) (d : X) (xs : List X) (i : ℕ) → i < length xs → All P xs → P (get_or xs i d)
all_get_d P d [] i l a = absurd (omega arith)
all_get_d P d (x ∷ xs) zero l a = a.0
all_get_d P d (x ∷ xs) (suc i) l a = all_get_d P d xs i (omega arith) a.1

-- a number that stands among the values of f is the value at one of the list
among : (f : ℕ → ℕ) (x : ℕ) (r : List ℕ) → is_in x (map f r) ≡ true → (p : ℕ) × (is_in p r ≡ true) × (f p ≡ x)
among f x [] e = absurd (let z : ◌≡◌ {A = ℕ} 0 1 = cc in omega arith)
among f x (i ∷ r) e = elim (is (eqb x (f i))) [
  | on h ↦ (i, rw (eq-eqb i i refl), sym (eqb-true x (f i) h))
  | off h ↦ (let s = among f x r (rw h at e) in (s.0, or_right (eqb s.0 i) (is_in s.0 r) s.1, s.2))
]
  where
    or_right : (a b : Bool) → b ≡ true → (a || b) ≡ true
    or_right true b e = refl
    or_right false b e = e

-- the ancestors of an ancestor stand behind it
back-suffix : (lev : ℕ → ℕ) (p n i : ℕ) → is_in p (back lev n (down_to i)) ≡ true → (xs : List ℕ) × (back lev n (down_to i) ≡ xs ++ (p ∷ ancestors lev p))
unfolding back
back-suffix lev p n zero e = absurd (let z : ◌≡◌ {A = ℕ} 0 1 = cc in omega arith)
back-suffix lev p n (suc i) e = elim (side (lev i) n) [
  | inside l ↦ elim (is (eqb p i)) [
    | on q ↦ (let z : p ≡ i = eqb-true p i q in ([], rw (z, back_in lev n i (down_to i) l)))
    | off q ↦
        let f : (eqb p i || is_in p (back lev (lev i) (down_to i))) ≡ true = rw (back_in lev n i (down_to i) l) at e in
        let r = back-suffix lev p (lev i) i (rw q at f) in
        (i ∷ r.0, back_in lev n i (down_to i) l ∙ ap (◌∷◌ i) r.1)
  ]
  | outside l ↦ (let r = back-suffix lev p n i (rw (back-out lev n i (down_to i) l) at e) in (r.0, back-out lev n i (down_to i) l ∙ r.1))
]

-- the type of a cell's segment
abbrev pub typ : List Segment → ℕ → ℕ
typ cs i = (segment cs i).code.0

module _ (cat : Bytes) (cs : List Segment) where
  abbrev head_type : List ℕ → ℕ
  head_type [] = 0
  head_type (i ∷ r) = typ cs i

  -- the type of each segment of a row has the next one's type as its parent
  abbrev Chain : List ℕ → Type 0
  Chain [] = Unit {0}
  Chain (i ∷ up) = (is_child cat (head_type up) (segment cs i) ≡ true) × Chain up

  rows-chain : (up : List ℕ) (f : Forest ℕ) → Chain up → Wf type_number (is_child cat) (siblings cat) (head_type up) (map_f (segment cs) f) → All Chain (rows up f)
  rows-chain up void c w = tt
  rows-chain up (node i k s) c w = ((w.0, c), all_append Chain (rows (i ∷ up) k) (rows up s) (rows-chain (i ∷ up) k (w.0, c) w.2) (rows-chain up s c w.3))

  module _ (g : good_catalogue cat ≡ true) where
    child-is : (p i : ℕ) → is_child cat p (segment cs i) ≡ true → (is_type cat (segment cs i).code ≡ true) × (parent_of cat (segment cs i).code ≡ code p)
    unfolding is_child
    child-is p i h =
        let t : TypeCode = (segment cs i).code in
        (both_left (is_type cat t) (eqb (parent_of cat t).0 p) h, ap code (eqb-true (parent_of cat t).0 p (both_right (is_type cat t) (eqb (parent_of cat t).0 p) h)))

    chain-types : (row : List ℕ) → Chain row → map (typ cs) row ≡ lineage cat (code (head_type row))
    unfolding lineage Types.lineage Types.lineage_from
    chain-types [] c = refl
    chain-types (i ∷ up) c =
        let t : TypeCode = (segment cs i).code in
        let h = child-is (head_type up) i c.0 in
        let r = type-range cat t h.0 in
        sym (lineage-up cat g t r.0 r.1 ∙ ap (λ (u : TypeCode). typ cs i ∷ lineage cat u) h.1 ∙ ap (◌∷◌ (typ cs i)) (sym (chain-types up c.1)))

    -- along a row the types fall
    chain-past : (xs : List ℕ) (p : ℕ) (r : List ℕ) → Chain (xs ++ (p ∷ r)) → All (λ i. typ cs p < typ cs i) xs × (typ cs p ≤ head_type (xs ++ (p ∷ r)))
    chain-past [] p r c = (tt, omega arith)
    chain-past (x ∷ xs) p r c =
        let h = chain-past xs p r c.1 in
        let t : TypeCode = (segment cs x).code in
        let k = child-is (head_type (xs ++ (p ∷ r))) x c.0 in
        let b = type-range cat t k.0 in
        let z : head_type (xs ++ (p ∷ r)) < typ cs x = omega (arith, parent-before cat g t b.0 b.1, ap (λ (u : TypeCode). u.0) k.1) in
        let y : typ cs p < typ cs x = omega (arith, h.1) in
        ((y, h.0), omega arith)

    module _ (w : good_listing cat cs ≡ true) where
      row-chain : (i : ℕ) → i < length cs → Chain (row_at cat cs i)
      unfolding good_listing segments data_part row_at
      row-chain i l =
          let n : ℕ = length cs in
          let lev : ℕ → ℕ = level_at cat cs in
          let F : Forest ℕ = forest_of lev (range 0 n) in
          let f : Wf type_number (is_child cat) (siblings cat) 0 (map_f (segment cs) F) =
          subst (Wf type_number (is_child cat) (siblings cat) 0) (sym (segments-cells cat cs)) (formed-wf type_number (is_child cat) (siblings cat) 0 (forest_of (segment_level cat) cs) w) in
          let q : i < length (rows [] F) = rw (length-rows lev n) l in
          rw (row_number lev n i l) at (all_get_d Chain [] (rows [] F) i q (rows-chain [] F tt f))

      -- LAW: a cell has a type of the catalogue, and its row the types above it
      pub row_type : (i : ℕ) → i < length cs → is_type cat (segment cs i).code ≡ true
      unfolding row_at
      row_type i l = (child-is (head_type (ancestors (level_at cat cs) i)) i (row-chain i l).0).0

      pub row-types : (i : ℕ) → i < length cs → map (typ cs) (row_at cat cs i) ≡ lineage cat (segment cs i).code
      unfolding row_at
      row-types i l = chain-types (row_at cat cs i) (row-chain i l)

      -- LAW: a type above the cell's own is that of one of its ancestors
      pub row-above : (i x : ℕ) → i < length cs → is_in x (lineage cat (parent_of cat (segment cs i).code)) ≡ true
          → (p : ℕ) × (is_in p (ancestors (level_at cat cs) i) ≡ true) × (typ cs p ≡ x)
      unfolding row_at
      row-above i x l e =
          let up : List ℕ = ancestors (level_at cat cs) i in
          let c = row-chain i l in
          among (typ cs) x up (ap (is_in x) (chain-types up c.1 ∙ sym (ap (lineage cat) (child-is (head_type up) i c.0).1)) ∙ e)

      -- LAW: the row of a cell in p's run goes through p, and the types before p come after p's
      pub row-through : (p k : ℕ) → k < length cs → p < k → k < end_at cat cs p
          → (xs : List ℕ) × (row_at cat cs k ≡ (k ∷ xs) ++ row_at cat cs p) × All (λ i. typ cs p < typ cs i) (k ∷ xs)
      unfolding row_at end_at run_at
      row-through p k l a b =
          let lev : ℕ → ℕ = level_at cat cs in
          let s = back-suffix lev p (lev k) k (run-ancestor lev (length cs) p k a b) in
          let e : (k ∷ ancestors lev k) ≡ (k ∷ s.0) ++ (p ∷ ancestors lev p) = ap (◌∷◌ k) s.1 in
          (s.0, e, (chain-past (k ∷ s.0) p (ancestors lev p) (subst Chain e (row-chain k l))).0)
