-- Cells by their codes, in a good table: a cell's type has as its parent the type of the cell that it lies beneath. Assumes nothing.
use Rattle.std.specs.Prelude.{Some, None}
use mathlib.Core.Path.{◌≡◌, refl, ap, sym, ◌∙◌, subst}
use mathlib.Core.Bool.{true, false}
use mathlib.Core.List.{List, [], ◌∷◌, ◌++◌}
use Prim.Native.Nat.{ℕ, zero, suc, ◌+◌, ◌-◌, ◌<◌, ◌≤◌}
use native.Mathlib.Omega.{arith}
use lib.Dec.{eqb}
use lib.ListN.{length, get_or}
use borrow.Author.Tests.{eqb-true}
use Rattle.terms.specs.declared.TypeCode.{TypeCode}
use Rattle.terms.specs.declared.CellNumber.{CellNumber}
use Rattle.terms.specs.Names.{code, cell}
use Rattle.forest.specs.Forest.{Forest, void, node, inside, outside, side, forest_of}
use Rattle.forest.specs.Rows.{rows, map_f}
use Rattle.forest.specs.Good.{on, off, is, both_left, both_right, Wf, formed-wf}
use Rattle.forest.specs.Runs.{under, under-in, under-out}
use Rattle.forest.specs.Numbers.{range, is_in, ancestors, run-ancestor}
use Rattle.forest.proofs.Numbers.{row_number}
use Rattle.rules.specs.Block.{Bytes, byte, part}
use Rattle.rules.specs.Catalogue.{types, parent_of, length_of, is_type, lineage, level, type_beneath, good_catalogue}
use Rattle.rules.specs.Cells.{Segment, segment, keyed, type_number, is_child, siblings, segment_level, good_listing, level_at, run_at, end_at}
use Rattle.rules.specs.Table.{count, listing}
use Rattle.rules.specs.Tree.{data_part, segments}
use Rattle.rules.proofs.Table.{table-tests, cell-keyed}
use Rattle.rules.proofs.Catalogue.{par, good-lower}
use Rattle.rules.proofs.Cells.{listing-length}
use Rattle.rules.proofs.Tree.{segments-cells}
use Rattle.catalogue.proofs.Chains.{clash, in_bounds}
use Rattle.catalogue.proofs.Hierarchy as Hierarchy
use Rattle.catalogue.proofs.Hierarchy.{type-range, level-child, beneath-parent, beneath-trans, beneath-later, none-later}
use Rattle.cells.specs.Lent.{InData, start_of, nearest, behind, end_from, LastBeneath, climbed, parent_at}
use Rattle.cells.specs.Sound.{Sound}
use Rattle.cells.proofs.Data.{code_of, whole-data, whole_part, whole_long}
use Rattle.cells.proofs.Located.{under-few, behind-in, behind-low, behind-high, climb-none, climb-here, climb-more, climb-parent, parent-before}

module _ (cat : Bytes) (cs : List Segment) where
  -- the type of the nearest of these cells; 0, if there is none
  abbrev nearest_type : List ℕ → ℕ
  nearest_type [] = 0
  nearest_type (i ∷ up) = type_number (segment cs i)

  -- a cell with its ancestors: each one's type has the next one's type as its parent
  abbrev Chain : List ℕ → Type 0
  Chain [] = Unit {0}
  Chain (i ∷ up) = (is_child cat (nearest_type up) (segment cs i) ≡ true) × Chain up

  nearest-type : (up : List ℕ) (j : ℕ) → Some (cell j) ≡ nearest up → nearest_type up ≡ type_number (segment cs j)
  nearest-type [] j e = absurd (let z : ◌≡◌ {A = ℕ} 0 1 = cc in omega arith)
  nearest-type (i ∷ up) j e =
      let f : cell j ≡ cell i = cc in
      ap (λ (c : CellNumber). type_number (segment cs c.0)) (sym f)

  chain-append : (xs ys : List (List ℕ)) → ((i : ℕ) → Chain (get_or xs i [])) → ((i : ℕ) → Chain (get_or ys i [])) → (i : ℕ) → Chain (get_or (xs ++ ys) i [])
  chain-append [] ys a b i = b i
  chain-append (x ∷ xs) ys a b zero = a 0
  chain-append (x ∷ xs) ys a b (suc i) = chain-append xs ys (λ k. a (suc k)) b i

  rows-chain : (up : List ℕ) (f : Forest ℕ) → Chain up → Wf type_number (is_child cat) (siblings cat) (nearest_type up) (map_f (segment cs) f) → (i : ℕ)
      → Chain (get_or (rows up f) i [])
  rows-chain up void c w i = tt
  rows-chain up (node x k s) c w zero = (w.0, c)
  rows-chain up (node x k s) c w (suc i) = chain-append (rows (x ∷ up) k) (rows up s) (rows-chain (x ∷ up) k (w.0, c) w.2) (rows-chain up s c w.3) i

  child-type : (p i : ℕ) → is_child cat p (segment cs i) ≡ true → (is_type cat (segment cs i).code ≡ true) × ((parent_of cat (segment cs i).code).0 ≡ p)
  unfolding is_child
  child-type p i h =
      let t : TypeCode = (segment cs i).code in
      (both_left (is_type cat t) (eqb (parent_of cat t).0 p) h, eqb-true (parent_of cat t).0 p (both_right (is_type cat t) (eqb (parent_of cat t).0 p) h))

  -- the type of a cell lies beneath those of all its ancestors
  chain-beneath : good_catalogue cat ≡ true → (p i : ℕ) (up : List ℕ) → Chain (i ∷ up) → is_in p up ≡ true
      → type_beneath cat (segment cs i).code (segment cs p).code ≡ true
  chain-beneath g p i [] c e = absurd (let z : ◌≡◌ {A = ℕ} 0 1 = cc in omega arith)
  chain-beneath g p i (q ∷ up) c e =
      let t : TypeCode = (segment cs i).code in
      let h = child-type (type_number (segment cs q)) i c.0 in
      let k = child-type (nearest_type up) q c.1.0 in
      let r = type-range cat t h.0 in
      let o = type-range cat (segment cs q).code k.0 in
      let b : type_beneath cat t (segment cs q).code ≡ true =
      subst (λ (x : ℕ). type_beneath cat t (code x) ≡ true) h.1
      (beneath-parent cat g t (omega (arith, h.1, Hierarchy.parent-before cat g t r.0 r.1)) r.1) in
      elim (is (eqb p q)) [
        | on z ↦ subst (λ (x : ℕ). type_beneath cat t (segment cs x).code ≡ true) (sym (eqb-true p q z)) b
        | off z ↦ beneath-trans cat g t (segment cs q).code (segment cs p).code r.0 r.1 b (chain-beneath g p q up c.1 (rw z at e))
      ]

  module _ (g : good_catalogue cat ≡ true) (w : good_listing cat cs ≡ true) (i : ℕ) (l : i < length cs) where
    row-chain : Chain (i ∷ ancestors (level_at cat cs) i)
    unfolding good_listing segments data_part
    row-chain =
        let lev : ℕ → ℕ = level_at cat cs in
        let F : Forest ℕ = forest_of lev (range 0 (length cs)) in
        let f : Wf type_number (is_child cat) (siblings cat) 0 (map_f (segment cs) F) =
        subst (Wf type_number (is_child cat) (siblings cat) 0) (sym (segments-cells cat cs))
        (formed-wf type_number (is_child cat) (siblings cat) 0 (forest_of (segment_level cat) cs) w) in
        rw (row_number lev (length cs) i l) at (rows-chain [] F tt f i)

    row_type : (is_type cat (segment cs i).code ≡ true) × ((parent_of cat (segment cs i).code).0 ≡ nearest_type (ancestors (level_at cat cs) i))
    row_type = child-type (nearest_type (ancestors (level_at cat cs) i)) i row-chain.0

    -- LAW: a cell has a type of the catalogue
    pub own-type : (1 ≤ (segment cs i).code.0) × ((segment cs i).code.0 ≤ types cat)
    own-type = type-range cat (segment cs i).code row_type.0

    -- its parent is the type of the nearest ancestor; 0 where it has none
    born-of : (parent_of cat (segment cs i).code).0 ≡ nearest_type (ancestors (level_at cat cs) i)
    born-of = row_type.1

    -- LAW: and it lies beneath the type of every cell in whose run the cell is
    pub run-beneath : (p : ℕ) → p < i → i < end_at cat cs p → type_beneath cat (segment cs i).code (segment cs p).code ≡ true
    unfolding end_at run_at
    run-beneath p a h = chain-beneath g p i (ancestors (level_at cat cs) i) row-chain (run-ancestor (level_at cat cs) (length cs) p i a h)

-- the types behind t up to `last` are all beneath t
abbrev pub InnerTypes : Bytes → ℕ → ℕ → Type 0
InnerTypes cat t last = (v : ℕ) → t < v → v ≤ last → type_beneath cat (code v) (code t) ≡ true

-- the types beneath type t, which stand right behind it
module _ (cat : Bytes) (g : good_catalogue cat ≡ true) (t : ℕ) (one : 1 ≤ t) (known : t ≤ types cat) where
  pub inner_start : InnerTypes cat t t
  inner_start v a b = absurd (omega arith)

  -- p is the parent of the type behind `last`
  module _ (last : ℕ) (p : TypeCode) (least : t ≤ last) (more : last < types cat) (e : p ≡ parent_of cat (code (last + 1))) where
    pub inner-next : InnerTypes cat t last → t ≤ p.0 → InnerTypes cat t (last + 1)
    inner-next n h v a b = elim (side v (last + 1)) [
      | inside l ↦ n v a (omega arith)
      | outside l ↦
          let z : v ≡ last + 1 = omega arith in
          let f : type_beneath cat (code v) p ≡ true =
          subst (λ (x : TypeCode). type_beneath cat (code v) x ≡ true) (ap (λ (x : ℕ). parent_of cat (code x)) z ∙ sym e)
          (beneath-parent cat g (code v) (omega arith) (omega arith)) in
          let d : p.0 < last + 1 = omega (arith, ap (λ (x : TypeCode). x.0) e, Hierarchy.parent-before cat g (code (last + 1)) (omega arith) (omega arith)) in
          elim (side t p.0) [
            | inside m ↦ beneath-trans cat g (code v) p (code t) (omega arith) (omega arith) f (n p.0 m (omega arith))
            | outside m ↦ (let y : p.0 ≡ t = omega arith in subst (λ (x : ℕ). type_beneath cat (code v) (code x) ≡ true) y f)
          ]
    ]

    pub outer-stop : p.0 < t → (v : ℕ) → last < v → v ≤ types cat → type_beneath cat (code v) (code t) ≡ false
    unfolding type_beneath lineage
    outer-stop h v a b =
        none-later cat g (code t) (code (last + 1)) (code v) (omega arith) (omega arith) b (elim (is (type_beneath cat (code (last + 1)) (code t))) [
          | on q ↦
              absurd (omega (
                arith,
                ap (λ (x : TypeCode). x.0) e,
                (in_bounds (par cat) (types cat) (good-lower cat g) (par cat (last + 1)) t
                    (omega (arith, Hierarchy.parent-before cat g (code (last + 1)) (omega arith) (omega arith))) q).1,
              ))
          | off q ↦ q
        ])

module _ (lev : ℕ → ℕ) (m : ℕ) where
  -- so many of the cells from s on are deeper, and the next one is not
  under-exact : (n s k : ℕ) → k ≤ n → ((j : ℕ) → j < k → m < lev (s + j)) → (k < n → lev (s + k) ≤ m) → under lev m (range s n) ≡ k
  unfolding under
  under-exact zero s k l h e = omega arith
  under-exact (suc n) s zero l h e = under-out lev m s (range (suc s) n) (let z : s + 0 ≡ s = omega arith in rw z at (e (omega arith)))
  under-exact (suc n) s (suc k) l h e =
      under-in lev m s (range (suc s) n) (let z : s + 0 ≡ s = omega arith in rw z at (h 0 (omega arith)))
      ∙ ap suc (under-exact n (suc s) k (omega arith)
      (λ j a. (let z : s + suc j ≡ suc s + j = omega arith in rw z at (h (suc j) (omega arith))))
      (λ a. (let z : s + suc k ≡ suc s + k = omega arith in rw z at (e (omega arith)))))

  under-stop : (n s : ℕ) → under lev m (range s n) < n → lev (s + under lev m (range s n)) ≤ m
  unfolding under
  under-stop zero s l = absurd (omega arith)
  under-stop (suc n) s l = elim (side m (lev s)) [
    | inside h ↦
        let e : under lev m (range s (suc n)) ≡ suc (under lev m (range (suc s) n)) = under-in lev m s (range (suc s) n) h in
        let z : s + under lev m (range s (suc n)) ≡ suc s + under lev m (range (suc s) n) = omega arith in
        rw z (under-stop n (suc s) (omega arith))
    | outside h ↦
        let e : under lev m (range s (suc n)) ≡ 0 = under-out lev m s (range (suc s) n) h in
        let z : s + under lev m (range s (suc n)) ≡ s = omega arith in
        rw z h
  ]

module _ {cat tab : Bytes} {size : ℕ} (s : Sound cat tab size) where
  abbrev cs : List Segment
  cs = listing cat tab

  pub sound-listing : good_listing cat (listing cat tab) ≡ true
  sound-listing = (table-tests cat tab s.table).cells

  -- R89: the key of each cell is a value
  pub sound-keyed : (i : ℕ) → i < count tab → keyed cat (segment (listing cat tab) i) ≡ true
  sound-keyed i l = cell-keyed cat tab s.table i l

  pub sound-known : (i : ℕ) → i < count tab → is_type cat (segment (listing cat tab) i).code ≡ true
  sound-known i l = (row_type cat cs s.catalogue sound-listing i (omega (arith, listing-length cat tab))).0

  -- all the data of a cell, whose type the code has read as t, and its length as long
  module _ {i : ℕ} (l : i < count tab) {t : TypeCode} (e : t ≡ (segment (listing cat tab) i).code) {long : ℕ} (q : long ≡ length_of cat t) where
    read_known : is_type cat t ≡ true
    read_known = rw e (sound-known i l)

    pub sound-data : InData cat tab size i 1 long
    sound-data = whole-data s.sized s.catalogue l e read_known q

    pub sound-part : part (segment (listing cat tab) i).bytes (1 - 1) long ≡ (segment (listing cat tab) i).bytes
    sound-part = whole_part s.sized s.catalogue l e read_known q

    pub sound-long : length (segment (listing cat tab) i).bytes ≡ long
    sound-long = whole_long s.sized s.catalogue l e read_known q

  -- going back from cell i, cell by cell, to the first of type p, which is the parent of its own
  module _ (i : ℕ) (l : i < count tab) (t p : TypeCode) (e : t ≡ (segment (listing cat tab) i).code) (f : p ≡ parent_of cat t) where
    abbrev lev : ℕ
    lev = level_at cat cs i

    in-cs : i < length cs
    in-cs = omega (arith, listing-length cat tab)

    above-is : p.0 ≡ nearest_type cat cs (ancestors (level_at cat cs) i)
    above-is = ap (λ (u : TypeCode). u.0) (f ∙ ap (parent_of cat) e) ∙ born-of cat cs s.catalogue sound-listing i in-cs

    pub parent-root : p.0 ≡ 0 → None ≡ parent_at cat (listing cat tab) i
    unfolding parent_at
    parent-root z = go (ancestors (level_at cat cs) i) refl
      where
        go : (up : List ℕ) → ancestors (level_at cat cs) i ≡ up → None ≡ nearest (ancestors (level_at cat cs) i)
        go [] q = sym (ap nearest q)
        go (j ∷ up) q =
            let b = parent-before cat cs i j (ap nearest q) in
            let y : p.0 ≡ type_number (segment cs j) = above-is ∙ ap (nearest_type cat cs) q in
            absurd (omega (arith, (own-type cat cs s.catalogue sound-listing j (omega (arith, b.0, in-cs))).0))

    pub parent-start : climbed cat (listing cat tab) (level_at cat (listing cat tab) i) i ≡ parent_at cat (listing cat tab) i
    parent-start = climb-parent cat cs i lev refl

    pub parent-none : (k : ℕ) → k ≤ 0 → climbed cat (listing cat tab) (level_at cat (listing cat tab) i) k ≡ parent_at cat (listing cat tab) i
        → None ≡ parent_at cat (listing cat tab) i
    parent-none k h v = climb-none cat cs lev k (omega arith) ∙ v

    -- u is the type of cell k - 1
    module _ (k : ℕ) (u : TypeCode) (some : 0 < k) (h : u ≡ (segment (listing cat tab) (k - 1)).code)
        (v : climbed cat (listing cat tab) (level_at cat (listing cat tab) i) k ≡ parent_at cat (listing cat tab) i) where
      pub parent-here : u.0 ≡ p.0 → Some (cell (k - 1)) ≡ parent_at cat (listing cat tab) i
      unfolding level_at
      parent-here z =
          let o = own-type cat cs s.catalogue sound-listing i in-cs in
          let a : level_at cat cs (k - 1) ≡ level cat p = ap (λ (x : ℕ). level cat (code x)) (ap (λ (x : TypeCode). x.0) (sym h) ∙ z) in
          let b : lev ≡ suc (level cat p) =
          level-child cat s.catalogue (segment cs i).code o.0 o.1 ∙ ap (λ (x : TypeCode). suc (level cat x)) (sym (f ∙ ap (parent_of cat) e)) in
          climb-here cat cs lev k (level_at cat cs (k - 1)) (λ y. omega arith) refl (omega arith) ∙ v

      pub parent-more : (u.0 ≡ p.0 → ⊥) → climbed cat (listing cat tab) (level_at cat (listing cat tab) i) (k - 1) ≡ parent_at cat (listing cat tab) i
      unfolding parent_at
      parent-more n = elim (side (level_at cat cs (k - 1)) lev) [
        | inside m ↦
            let q : Some (cell (k - 1)) ≡ nearest (ancestors (level_at cat cs) i) =
            climb-here cat cs lev k (level_at cat cs (k - 1)) (λ y. omega arith) refl m ∙ v in
            absurd (n (ap (λ (x : TypeCode). x.0) h ∙ sym (above-is ∙ nearest-type cat cs (ancestors (level_at cat cs) i) (k - 1) q)))
        | outside m ↦ climb-more cat cs lev k (level_at cat cs (k - 1)) (λ y. omega arith) refl m ∙ v
      ]

  -- LAW: the run of a cell of type t ends at the first later cell whose code does not lie behind t and up to the last type beneath it
  module _ (i : ℕ) (l : i < count tab) (t : TypeCode) (last n : ℕ) (e : t ≡ (segment (listing cat tab) i).code) (f : LastBeneath cat t.0 last)
      (m : n ≡ count tab) where
    abbrev rest : ℕ
    rest = under (level_at cat cs) (level_at cat cs i) (range (suc i) (length cs - suc i))

    abbrev seen : ℕ → ℕ
    seen = behind tab size t.0 last

    code-byte : (k : ℕ) → k < count tab → (segment cs k).code.0 ≡ byte tab (start_of tab size k)
    code-byte k h = ap (λ (x : TypeCode). x.0) (sym (code_of s.sized k h _ refl))

    deeper-seen : (k : ℕ) → i < k → k < count tab → type_beneath cat (segment cs k).code t ≡ true → seen k ≡ 1
    deeper-seen k a h b =
        let o = own-type cat cs s.catalogue sound-listing k (omega (arith, listing-length cat tab)) in
        let y = beneath-later cat s.catalogue (segment cs k).code t o.0 o.1 b in
        let u : (segment cs k).code.0 ≤ last = (elim (side last (segment cs k).code.0) [
          | inside w ↦ absurd (clash b (f.outer (segment cs k).code.0 w o.1))
          | outside w ↦ w
        ]) in
        behind-in tab size t.0 last k (segment cs k).code.0 (code-byte k h) y.1 u

    other-unseen : (k : ℕ) → i < k → k < count tab → level_at cat cs k ≤ level_at cat cs i → seen k ≡ 0
    unfolding level_at
    other-unseen k a h b =
        let o = own-type cat cs s.catalogue sound-listing k (omega (arith, listing-length cat tab)) in
        let x : level cat t ≡ level_at cat cs i = ap (level cat) e in
        elim (side t.0 (segment cs k).code.0) [
          | outside w ↦ behind-low tab size t.0 last k (segment cs k).code.0 (code-byte k h) w
          | inside w ↦ elim (side last (segment cs k).code.0) [
            | inside v ↦ behind-high tab size t.0 last k (segment cs k).code.0 (code-byte k h) v
            | outside v ↦
                absurd (omega (arith, (beneath-later cat s.catalogue (segment cs k).code t o.0 o.1 (f.inner (segment cs k).code.0 w v)).2))
          ]
        ]

    pub end-run : end_from tab size t.0 last (i + 1) (n - (i + 1)) ≡ end_at cat (listing cat tab) i
    unfolding end_from end_at run_at
    end-run =
        let q : length cs ≡ count tab = listing-length cat tab in
        let z : i + 1 ≡ suc i = omega arith in
        let y : n - suc i ≡ length cs - suc i = omega arith in
        let few : rest ≤ length cs - suc i = under-few (level_at cat cs) (level_at cat cs i) (suc i) (length cs - suc i) in
        let r : under seen 0 (range (suc i) (length cs - suc i)) ≡ rest =
        under-exact seen 0 (length cs - suc i) (suc i) rest few
        (λ j a. omega (
          arith,
          deeper-seen (suc i + j) (omega arith) (omega arith)
              (subst (λ (x : TypeCode). type_beneath cat (segment cs (suc i + j)).code x ≡ true) (sym e)
              (run-beneath cat cs s.catalogue sound-listing (suc i + j) (omega arith) i (omega arith) (omega arith))),
        ))
        (λ a. omega (
          arith,
          other-unseen (suc i + rest) (omega arith) (omega arith) (under-stop (level_at cat cs) (level_at cat cs i) (length cs - suc i) (suc i) a),
        )) in
        rw (z, y) (omega arith)
