-- The cells beneath a parent in a good listing: a row of siblings with all beneath them, and behind it what is less deep. Assumes nothing.
use mathlib.Core.Path.{◌≡◌, refl, ap, sym, ◌∙◌, subst}
use mathlib.Core.Bool.{Bool, true, false, ◌||◌}
use mathlib.Core.List.{List, [], ◌++◌, append-nil}
use Prim.Native.Nat.{ℕ, zero, suc, ◌+◌, ◌-◌, ◌<◌, ◌≤◌}
use native.Mathlib.Omega.{arith}
use lib.ListN.{length, drop, get_or, length-drop, get_or-append}
use lib.Seq.{drop-cons, drop-drop, drop-length, drop-append_seam, get_or-drop}
use Rattle.terms.specs.declared.TypeCode.{TypeCode}
use Rattle.terms.specs.Names.{code}
use Rattle.forest.specs.Forest.{Forest, cells_of, forest_of, inside, outside, side}
use Rattle.forest.proofs.Forest.{cells-forest}
use Rattle.forest.specs.Shape.{Levelled}
use Rattle.forest.specs.Edit.{size, kids}
use Rattle.forest.specs.Runs.{under, under-in, under-out, run_len, levelled-kids}
use Rattle.forest.proofs.Runs.{run_length, tail-split}
use Rattle.forest.specs.Keep.{wf-kids}
use Rattle.forest.specs.Insert.{Low}
use Rattle.forest.specs.Good.{Wf, formed-wf, levelled}
use Rattle.forest.specs.Numbers.{range}
use Rattle.forest.specs.Types as Types
use Rattle.rules.specs.Block.{Bytes, any_of}
use Rattle.rules.specs.Catalogue.{types, parent_of, key_kind, lineage, level, is_type, good_catalogue}
use Rattle.rules.specs.Cells.{Segment, segment, segment_of, arriving, blank, type_number, is_child, siblings, same_key, goes_before, segment_level, good_listing, level_at, run_at, end_at}
use Rattle.rules.specs.Table.{count, listing}
use Rattle.rules.specs.Calls.{key_taken}
use Rattle.rules.proofs.Catalogue.{par, good-lower}
use Rattle.rules.proofs.Cells.{listing-length}
use Rattle.cells.proofs.Located.{end-within}
use Rattle.cells.proofs.Ancestry.{sound-listing}
use Rattle.catalogue.proofs.Hierarchy.{type-range, level-child, level-root}
use Rattle.twins.specs.Among.{New, Beneath, top, child, passed}
use Rattle.twins.proofs.Rows.{Each, each_at, each_level, spot-low, spot-within, low-past, bare-behind}
use Rattle.twins.proofs.Twins.{key-deep, key-past, before-onward}

-- the cells from `from` to before `to` are those of a well-formed row of x's level, and the first cell behind them, if any, is less deep
pub record Row (cat tab : Bytes) (x : Segment) (from to : ℕ) : Type 0 where
  pub parent : ℕ
  pub row : Forest Segment
  pub behind : List Segment
  pub formed : Wf type_number (is_child cat) (siblings cat) parent row
  pub even : Levelled (segment_level cat) (segment_level cat x) row
  pub cells : cells_of row ++ behind ≡ drop from (listing cat tab)
  pub many : from + size row ≡ to
  pub low : Low (segment_level cat) x (goes_before cat x) behind
  pub within : to ≤ count tab

-- a whole good listing is a well-formed row of level 1
module _ (cat : Bytes) (g : good_catalogue cat ≡ true) (cs : List Segment) (good : good_listing cat cs ≡ true) where
  formed-all : Wf type_number (is_child cat) (siblings cat) 0 (forest_of (segment_level cat) cs)
  unfolding good_listing
  formed-all = formed-wf type_number (is_child cat) (siblings cat) 0 (forest_of (segment_level cat) cs) good

  even-all : Levelled (segment_level cat) 1 (forest_of (segment_level cat) cs)
  unfolding is_child is_type level lineage Types.level Types.lineage Types.lineage_from
  even-all =
      levelled type_number (is_child cat) (siblings cat)
      (λ p s h. Types.rise (par cat) (types cat) (good-lower cat g) p (type_number s) h)
      (λ p q s h k. Types.one (par cat) (types cat) (good-lower cat g) p q (type_number s) h k)
      (Types.level (par cat))
      (λ p s h. Types.deeper (par cat) (types cat) (good-lower cat g) p (type_number s) h) 0 (forest_of (segment_level cat) cs) formed-all

-- runs by segments are runs by numbers
module _ (cat : Bytes) (cs : List Segment) where
  under-cells : (m n s : ℕ) → s + n ≡ length cs → under (segment_level cat) m (drop s cs) ≡ under (level_at cat cs) m (range s n)
  unfolding under level_at
  under-cells m zero s e = rw (drop-end s (omega arith))
    where
      drop-end : (k : ℕ) → k ≡ length cs → drop k cs ≡ []
      drop-end k q = rw q (drop-length cs)
  under-cells m (suc n) s e =
      rw (drop-cons cs s blank (omega arith)) (elim (side m (level_at cat cs s)) [
        | inside l ↦ under-in (segment_level cat) m (segment cs s) (drop (suc s) cs) l ∙ ap suc (under-cells m n (suc s) (omega arith))
            ∙ sym (under-in (level_at cat cs) m s (range (suc s) n) l)
        | outside l ↦ under-out (segment_level cat) m (segment cs s) (drop (suc s) cs) l ∙ sym (under-out (level_at cat cs) m s (range (suc s) n) l)
      ])

  run-cells : (p : ℕ) → p < length cs → p + run_len (segment_level cat) blank p cs ≡ end_at cat cs p
  unfolding end_at run_at level_at
  run-cells p l = omega (arith, under-cells (level_at cat cs p) (length cs - suc p) (suc p) (omega arith))

-- the forest of all cells
abbrev whole : Bytes → Bytes → Forest Segment
whole cat tab = forest_of (segment_level cat) (listing cat tab)

module _ (cat tab : Bytes) (x : Segment) (g : good_catalogue cat ≡ true) (good : good_listing cat (listing cat tab) ≡ true) (known : is_type cat x.code ≡ true) where
  in_whole : (p : ℕ) → p < length (listing cat tab) → p < size (whole cat tab)
  in_whole p l = rw (cells-forest (segment_level cat) (listing cat tab)) l

  at-whole : (p : ℕ) → get_or (cells_of (whole cat tab)) p blank ≡ segment (listing cat tab) p
  at-whole p = ap (λ (r : List Segment). get_or r p blank) (cells-forest (segment_level cat) (listing cat tab))

  module _ (p : ℕ) (e : (segment (listing cat tab) p).code ≡ parent_of cat x.code) where
    deeper : segment_level cat x ≡ suc (segment_level cat (segment (listing cat tab) p))
    deeper = level-child cat g x.code (type-range cat x.code known).0 (type-range cat x.code known).1 ∙ sym (ap (λ (t : TypeCode). suc (level cat t)) e)

    even-kids : p < length (listing cat tab) → Levelled (segment_level cat) (segment_level cat x) (kids p (whole cat tab))
    even-kids l =
        subst (λ (n : ℕ). Levelled (segment_level cat) n (kids p (whole cat tab)))
        (ap (λ (s : Segment). suc (segment_level cat s)) (at-whole p) ∙ sym deeper)
        (levelled-kids (segment_level cat) blank 1 p (whole cat tab) (in_whole p l) (even-all cat g (listing cat tab) good))

  row_of : {from to : ℕ} → Beneath cat tab x.code from to → Row cat tab x from to
  row_of (top one a b) = record {
    parent = 0;
    row = whole cat tab;
    behind = [];
    formed = formed-all cat g (listing cat tab) good;
    even = subst (λ (n : ℕ). Levelled (segment_level cat) n (whole cat tab)) (sym (ap (λ (n : ℕ). level cat (code n)) one ∙ level-root cat g)) (even-all cat g (listing cat tab) good);
    cells = append-nil (cells_of (whole cat tab)) ∙ cells-forest (segment_level cat) (listing cat tab) ∙ sym (ap (λ (n : ℕ). drop n (listing cat tab)) a);
    many = omega (arith, ap length (cells-forest (segment_level cat) (listing cat tab)), listing-length cat tab);
    low = tt;
    within = omega arith;
  }
  row_of (child p h e a b) =
      let l : p < length (listing cat tab) = omega (arith, listing-length cat tab) in
      let z : suc p ≡ p + 1 = omega arith in
      record {
        parent = type_number (get_or (cells_of (whole cat tab)) p blank);
        row = kids p (whole cat tab);
        behind = drop (p + run_len (segment_level cat) blank p (listing cat tab)) (listing cat tab);
        formed = wf-kids (segment_level cat) type_number (is_child cat) (siblings cat) blank p 0 (whole cat tab) (in_whole p l) (formed-all cat g (listing cat tab) good);
        even = even-kids p e l;
        cells = tail-split (segment_level cat) blank p (listing cat tab) l ∙ ap (λ (n : ℕ). drop n (listing cat tab)) (z ∙ sym a);
        many = omega (arith, run_length (segment_level cat) blank p (listing cat tab) l, run-cells cat (listing cat tab) p l);
        low = low-past (segment_level cat) x (goes_before cat x) blank p (listing cat tab) (omega (arith, deeper p e));
        within = omega (arith, end-within cat (listing cat tab) p l, listing-length cat tab);
      }

-- the row that a new segment goes to
module _ {cat tab : Bytes} {size : ℕ} {t : TypeCode} {area : Bytes} (n : New cat tab size t area) {from to : ℕ} (b : Beneath cat tab t from to) where
  good-cells : good_listing cat (listing cat tab) ≡ true
  good-cells = sound-listing n.sound

  pub row_new : Row cat tab (arriving cat t area) from to
  unfolding arriving segment_of
  row_new = row_of cat tab (arriving cat t area) n.sound.catalogue good-cells n.known b

-- II over the cells, one after the other
module _ (cat : Bytes) (cs : List Segment) (x : Segment) where
  pub taken_none : (i : ℕ) → key_taken cat cs x i 0 ≡ false
  unfolding key_taken any_of
  taken_none i = refl

  pub taken_next : (i n : ℕ) → key_taken cat cs x i (suc n) ≡ (same_key cat x (segment cs i) || key_taken cat cs x (suc i) n)
  unfolding key_taken any_of
  taken_next i n = refl

  shifted : (i j : ℕ) → same_key cat x (segment cs (i + suc j)) ≡ false → same_key cat x (segment cs (suc i + j)) ≡ false
  shifted i j h = let z : i + suc j ≡ suc i + j = omega arith in rw z at h

  -- cells that do not have the key may as well not be looked at
  taken-front : (m n i : ℕ) → m ≤ n → ((j : ℕ) → m ≤ j → j < n → same_key cat x (segment cs (i + j)) ≡ false) → key_taken cat cs x i m ≡ key_taken cat cs x i n
  taken-front zero zero i l h = refl
  taken-front (suc m) zero i l h = absurd (omega arith)
  taken-front zero (suc n) i l h =
      let z : i + 0 ≡ i = omega arith in
      let e : same_key cat x (segment cs i) ≡ false = rw z at (h 0 (omega arith) (omega arith)) in
      taken_none i ∙ sym (taken_none (suc i)) ∙ taken-front zero n (suc i) (omega arith) (λ j a b. shifted i j (h (suc j) (omega arith) (omega arith))) ∙ sym (taken_next i n ∙ rw e)
  taken-front (suc m) (suc n) i l h =
      taken_next i m
      ∙ ap (λ (b : Bool). same_key cat x (segment cs i) || b) (taken-front m n (suc i) (omega arith) (λ j a b. shifted i j (h (suc j) (omega arith) (omega arith))))
      ∙ sym (taken_next i n)

module _ {cat tab : Bytes} {x : Segment} {from to : ℕ} (r : Row cat tab x from to) where
  row_at : (k : ℕ) → k < size r.row → segment (listing cat tab) (from + k) ≡ get_or (cells_of r.row) k blank
  row_at k l =
      sym (get_or-drop from (listing cat tab) k blank) ∙ sym (ap (λ (s : List Segment). get_or s k blank) r.cells)
      ∙ get_or-append (cells_of r.row) r.behind blank k l

  -- no cell beneath the parent is less deep than x
  pub row-level : (j : ℕ) → from ≤ j → j < to → segment_level cat x ≤ segment_level cat (segment (listing cat tab) j)
  row-level j a b =
      let l : j - from < size r.row = omega (arith, r.many) in
      let z : from + (j - from) ≡ j = omega arith in
      let e : segment (listing cat tab) j ≡ get_or (cells_of r.row) (j - from) blank = rw z at (row_at (j - from) l) in
      rw e (each_at (λ c. segment_level cat x ≤ segment_level cat c) blank (cells_of r.row) (j - from)
      (each_level (segment_level cat) (segment_level cat x) (segment_level cat x) r.row (omega arith) r.even) l)

  -- and behind them it passes none
  pub row-end : passed cat (listing cat tab) x to ≡ 0
  unfolding passed
  row-end =
      let e : r.behind ≡ drop to (listing cat tab) =
      sym (drop-append_seam (cells_of r.row) r.behind) ∙ ap (drop (size r.row)) r.cells
      ∙ drop-drop (size r.row) from (listing cat tab) ∙ ap (λ (n : ℕ). drop n (listing cat tab)) r.many in
      rw (← e) (spot-low (segment_level cat) x _ r.behind r.low)

  -- behind the spot no cell has a key that is unique: twins ascend strictly
  bare-at : key_kind cat x.code ≡ 1 → (j : ℕ) → passed cat (listing cat tab) x from ≤ j → j < size r.row → same_key cat x (segment (listing cat tab) (from + j)) ≡ false
  unfolding passed
  bare-at k j a l =
      let m : ℕ = passed cat (listing cat tab) x from in
      let b : Each (λ c. same_key cat x c ≡ false) (drop m (cells_of r.row)) =
      rw (← r.cells)
      (bare-behind (segment_level cat) x _ type_number (is_child cat) (siblings cat) (same_key cat x) (key-deep cat x) (key-past cat x) (before-onward cat x k) r.parent r.row r.behind r.formed r.even) in
      let i : j - m < length (drop m (cells_of r.row)) = rw (length-drop m (cells_of r.row)) (omega arith) in
      let z : m + (j - m) ≡ j = omega arith in
      let e : get_or (drop m (cells_of r.row)) (j - m) blank ≡ get_or (cells_of r.row) j blank =
      get_or-drop m (cells_of r.row) (j - m) blank ∙ ap (λ (n : ℕ). get_or (cells_of r.row) n blank) z in
      ap (same_key cat x) (row_at j l ∙ sym e) ∙ each_at (λ c. same_key cat x c ≡ false) blank (drop m (cells_of r.row)) (j - m) b i

  passed-within : passed cat (listing cat tab) x from ≤ size r.row
  unfolding passed
  passed-within = rw (← r.cells) (spot-within (segment_level cat) x _ (cells_of r.row) r.behind r.low)

  -- so among all the cells beneath the parent it is taken exactly when it is among those that x passes
  pub row-taken : key_kind cat x.code ≡ 1 → key_taken cat (listing cat tab) x from (passed cat (listing cat tab) x from) ≡ key_taken cat (listing cat tab) x from (to - from)
  row-taken k =
      let z : to - from ≡ size r.row = omega (arith, r.many) in
      rw z (taken-front cat (listing cat tab) x (passed cat (listing cat tab) x from) (size r.row) from passed-within (bare-at k))
