-- Cells by number: type and level, the end of a run, the parent; what a good table gives to these. Assumes nothing.
use Rattle.std.specs.Prelude.{Some, None}
use mathlib.Core.Path.{◌≡◌, refl, ap, sym, ◌∙◌}
use mathlib.Core.Bool.{true}
use mathlib.Core.List.{List}
use Prim.Native.Nat.{ℕ, zero, suc, ◌+◌, ◌-◌, ◌*◌, ◌<◌, ◌≤◌}
use native.Mathlib.Omega.{arith}
use lib.Dec.{leb, eqb}
use lib.ListN.{length}
use borrow.Author.Tests.{lt-ltb, le-ltb, le-leb, lt-leb, leb-true, eqb-true}
use Rattle.terms.specs.declared.CellNumber.{CellNumber}
use Rattle.terms.specs.Names.{cell}
use Rattle.forest.specs.Forest.{inside, outside, side}
use Rattle.forest.specs.Runs.{under, under-in, under-out}
use Rattle.forest.specs.Rows.{back, back_in, back-out}
use Rattle.forest.specs.Numbers.{range, down_to}
use Rattle.rules.specs.Block.{Bytes, byte}
use Rattle.rules.specs.Catalogue.{good_catalogue}
use Rattle.rules.specs.Cells.{Segment, segment, segment_of, level_at, run_at, end_at}
use Rattle.rules.specs.Table.{count, cell_size, cell_start, room, type_at, segment_at, listing, good_room, good_table}
use Rattle.rules.proofs.Joined.{three}
use Rattle.rules.proofs.Table.{table-tests}
use Rattle.rules.proofs.Cells.{listing-at}
use Rattle.cells.specs.Lent.{Sized, Inside, start_of, behind, nearest, end_from, climbed, parent_at}
use Rattle.cells.specs.Sound.{Sound}
use Rattle.cells.proofs.Start.{inside-less, inside-room, room-sized}

-- the type of cell i
pub type-of : (cat tab : Bytes) (i : ℕ) → i < count tab → (segment (listing cat tab) i).code ≡ type_at cat tab i
unfolding segment_at segment_of
type-of cat tab i l = ap (λ (s : Segment). s.code) (listing-at cat tab i l)

module _ (lev : ℕ → ℕ) where
  pub under-few : (n s k : ℕ) → under lev n (range s k) ≤ k
  unfolding under
  under-few n s zero = omega arith
  under-few n s (suc k) = elim (side n (lev s)) [
    | inside l ↦ omega (arith, under-in lev n s (range (suc s) k) l, under-few n (suc s) k)
    | outside l ↦ omega (arith, under-out lev n s (range (suc s) k) l)
  ]

-- the end of a run, one cell after the other; u is what the code has read as the code of cell i
module _ (tab : Bytes) (size t last i : ℕ) where
  abbrev inner : ℕ → ℕ
  inner = behind tab size t last

  pub end_none : (n : ℕ) → n ≡ 0 → i ≡ end_from tab size t last i n
  unfolding end_from under
  end_none zero e = omega arith
  end_none (suc n) e = absurd (omega arith)

  -- cell i is behind t and up to last, or it is not
  pub behind-in : (u : ℕ) → u ≡ byte tab (start_of tab size i) → t < u → u ≤ last → inner i ≡ 1
  behind-in u e a b = rw (← e, lt-ltb t u a, le-leb u last b)

  pub behind-low : (u : ℕ) → u ≡ byte tab (start_of tab size i) → u ≤ t → inner i ≡ 0
  behind-low u e a = rw (← e, le-ltb t u a)

  pub behind-high : (u : ℕ) → u ≡ byte tab (start_of tab size i) → last < u → inner i ≡ 0
  behind-high u e a = elim (side t u) [
    | inside l ↦ rw (← e, lt-ltb t u l, lt-leb u last a)
    | outside l ↦ rw (← e, le-ltb t u l)
  ]

  pub end-here : (n : ℕ) → inner i ≡ 0 → i ≡ end_from tab size t last i n
  unfolding end_from under
  end-here zero e = omega arith
  end-here (suc n) e = omega (arith, under-out inner 0 i (range (suc i) n) (omega arith))

  pub end_more : (to : ℕ) → i < to → inner i ≡ 1 → end_from tab size t last (i + 1) (to - (i + 1)) ≡ end_from tab size t last i (to - i)
  unfolding end_from
  end_more to h e =
      let k : ℕ = to - suc i in
      let a : i + 1 ≡ suc i = omega arith in
      let b : to - i ≡ suc (to - suc i) = omega arith in
      rw (a, b, under-in inner 0 i (range (suc i) (to - suc i)) (omega arith)) (omega arith)

-- the first m of n cells: where they are all passed the others decide, and where they are not they decide alone
module _ (tab : Bytes) (size t last : ℕ) where
  abbrev within-last : ℕ → ℕ
  within-last = behind tab size t last

  under-past : (m n i : ℕ) → m ≤ n → under within-last 0 (range i m) ≡ m → m + under within-last 0 (range (i + m) (n - m)) ≡ under within-last 0 (range i n)
  unfolding under
  under-past zero n i l e =
      let a : i + 0 ≡ i = omega arith in
      let b : n - 0 ≡ n = omega arith in
      rw (a, b) (omega arith)
  under-past (suc m) zero i l e = absurd (omega arith)
  under-past (suc m) (suc n) i l e = elim (side 0 (within-last i)) [
    | inside h ↦
        let f : suc (under within-last 0 (range (suc i) m)) ≡ suc m = sym (under-in within-last 0 i (range (suc i) m) h) ∙ e in
        let a : i + suc m ≡ suc i + m = omega arith in
        let b : suc n - suc m ≡ n - m = omega arith in
        rw (a, b, under-in within-last 0 i (range (suc i) n) h) (omega (arith, under-past m n (suc i) (omega arith) (omega arith)))
    | outside h ↦ absurd (omega (arith, under-out within-last 0 i (range (suc i) m) h))
  ]

  under-short : (m n i : ℕ) → m ≤ n → under within-last 0 (range i m) < m → under within-last 0 (range i m) ≡ under within-last 0 (range i n)
  unfolding under
  under-short zero n i l e = absurd (omega arith)
  under-short (suc m) zero i l e = absurd (omega arith)
  under-short (suc m) (suc n) i l e = elim (side 0 (within-last i)) [
    | inside h ↦
        let f : suc (under within-last 0 (range (suc i) m)) < suc m = rw (under-in within-last 0 i (range (suc i) m) h) at e in
        rw (under-in within-last 0 i (range (suc i) m) h, under-in within-last 0 i (range (suc i) n) h)
        (ap suc (under-short m n (suc i) (omega arith) (omega arith)))
    | outside h ↦ rw (under-out within-last 0 i (range (suc i) m) h, under-out within-last 0 i (range (suc i) n) h)
  ]

  pub end_whole : (n i r : ℕ) → r ≡ end_from tab size t last i (i + n - i) → r ≡ end_from tab size t last i n
  end_whole n i r e = let z : i + n - i ≡ n = omega arith in rw z at e

  pub end-past : (m n i r : ℕ) → m ≤ n → r ≡ end_from tab size t last i m → i + m ≤ r → end_from tab size t last (i + m) (n - m) ≡ end_from tab size t last i n
  unfolding end_from
  end-past m n i r l e h = omega (arith, under-past m n i l (omega (arith, under-few within-last 0 i m)))

  pub end_short : (m n i r : ℕ) → m ≤ n → r ≡ end_from tab size t last i m → r < i + m → r ≡ end_from tab size t last i n
  unfolding end_from
  end_short m n i r l e h = omega (arith, under-short m n i l (omega arith))

module _ (cat : Bytes) (cs : List Segment) (lev i : ℕ) where
  -- climbing to a parent, one cell after the other
  pub climb-none : i ≡ 0 → None ≡ climbed cat cs lev i
  unfolding climbed back
  climb-none e = rw e

  pub climb-here : (here : ℕ) → (i ≡ 0 → ⊥) → here ≡ level_at cat cs (i - 1) → here < lev → Some (cell (i - 1)) ≡ climbed cat cs lev i
  unfolding climbed
  climb-here here n e h =
      let a : i ≡ suc (i - 1) = omega arith in
      sym (ap (λ (k : ℕ). nearest (back (level_at cat cs) lev (down_to k))) a ∙ ap nearest (back_in (level_at cat cs) lev (i - 1) (down_to (i - 1)) (omega arith)))

  pub climb-more : (here : ℕ) → (i ≡ 0 → ⊥) → here ≡ level_at cat cs (i - 1) → lev ≤ here → climbed cat cs lev (i - 1) ≡ climbed cat cs lev i
  unfolding climbed
  climb-more here n e h =
      let a : i ≡ suc (i - 1) = omega arith in
      sym (ap (λ (k : ℕ). nearest (back (level_at cat cs) lev (down_to k))) a ∙ ap nearest (back-out (level_at cat cs) lev (i - 1) (down_to (i - 1)) (omega arith)))

module _ (lev : ℕ → ℕ) where
  nearest-before : (p n i : ℕ) → nearest (back lev n (down_to i)) ≡ Some (cell p) → (p < i) × (lev p < n)
  unfolding back
  nearest-before p n zero e = absurd (let z : ◌≡◌ {A = ℕ} 0 1 = cc in omega arith)
  nearest-before p n (suc i) e = elim (side (lev i) n) [
    | inside l ↦
        let f : Some (cell i) ≡ Some (cell p) = rw (back_in lev n i (down_to i) l) at e in
        let g : cell i ≡ cell p = cc in
        let z : i ≡ p = ap (λ (c : CellNumber). c.0) g in
        (omega arith, rw (← z) l)
    | outside l ↦
        let r = nearest-before p n i (rw (back-out lev n i (down_to i) l) at e) in
        (omega (arith, r.0), r.1)
  ]

module _ (cat : Bytes) (cs : List Segment) (i : ℕ) where
  -- from cell i back, that is its parent
  pub climb-parent : (here : ℕ) → here ≡ level_at cat cs i → climbed cat cs here i ≡ parent_at cat cs i
  unfolding climbed parent_at
  climb-parent here e = rw e

  -- a run has its cell at least, and ends behind the last cell at the latest
  pub end_after : i < end_at cat cs i
  unfolding end_at run_at
  end_after = omega arith

  pub end-within : i < length cs → end_at cat cs i ≤ length cs
  unfolding end_at run_at
  end-within l = omega (arith, under-few (level_at cat cs) (level_at cat cs i) (suc i) (length cs - suc i))

  -- a parent stands before the cell, at a smaller level
  pub parent-before : (p : ℕ) → parent_at cat cs i ≡ Some (cell p) → (p < i) × (level_at cat cs p < level_at cat cs i)
  unfolding parent_at
  parent-before p e = nearest-before (level_at cat cs) p (level_at cat cs i) i e

-- what a good table says of its room (R10 to R12)
pub record Housed (cat tab : Bytes) : Type 0 where
  pub whole : length tab ≡ 8 + room cat tab * cell_size cat
  pub most : room cat tab ≤ 4096
  pub told : byte tab 5 ≡ cell_size cat
  pub few : count tab ≤ room cat tab

pub good-housed : (cat tab : Bytes) → good_table cat tab ≡ true → Housed cat tab
unfolding good_room cell_start
good-housed cat tab h =
    let p = table-tests cat tab h in
    let q = three (leb 8 (length tab)) (eqb (length tab) (cell_start cat (room cat tab))) (leb (room cat tab) 4096) p.roomy in
    record {
      whole = eqb-true (length tab) (cell_start cat (room cat tab)) q.1;
      most = leb-true (room cat tab) 4096 q.2;
      told = eqb-true (byte tab 5) (cell_size cat) p.size;
      few = leb-true (count tab) (room cat tab) p.few;
    }

pub good-sized : (cat tab : Bytes) → good_catalogue cat ≡ true → good_table cat tab ≡ true → Sized cat tab (cell_size cat)
good-sized cat tab g h = room-sized cat tab refl g (table-tests cat tab h).roomy (good-housed cat tab h).few

-- a good table has room for so many cells, used or not
pub sound-inside : {cat tab : Bytes} {size : ℕ} → Sound cat tab size → (k : ℕ) → k ≤ room cat tab → Inside tab size k
sound-inside {cat} {tab} s k l = inside-less (inside-room cat tab s.sized.is s.catalogue (table-tests cat tab s.table).roomy) k l

pub good-sound : (cat tab : Bytes) → good_catalogue cat ≡ true → good_table cat tab ≡ true → Sound cat tab (cell_size cat)
good-sound cat tab g h = record { catalogue = g; table = h; sized = good-sized cat tab g h }
