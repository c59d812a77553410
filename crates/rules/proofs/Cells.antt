-- The listing cell by cell, and R20 on a cell by numbers. Assumes nothing.
use mathlib.Core.Path.{◌≡◌, ap, sym, ◌∙◌}
use mathlib.Core.Bool.{true, false, ◌&&◌}
use mathlib.Core.List.{List, map}
use Prim.Native.Nat.{ℕ, zero, suc, ◌+◌, ◌<◌}
use native.Mathlib.Omega.{arith}
use lib.Dec.{ltb, leb, eqb}
use lib.ListN.{length, get_or, length-map}
use borrow.Author.Tests.{lt-ltb, le-ltb, le-leb, lt-leb, eqb-true, eqb-false}
use Rattle.forest.specs.Forest.{inside, outside, side}
use Rattle.forest.specs.Good.{on, off, is}
use Rattle.forest.specs.Numbers.{range, is_in, length-range, ancestors, run-ancestor, ancestor-run}
use Rattle.rules.specs.Block.{Bytes}
use Rattle.rules.specs.Table.{count, segment_at, listing}
use Rattle.rules.specs.Cells.{Segment, segment, blank, level_at, run_at, end_at, row_at}

-- LAW 23: the listing, cell by cell
map_at : {A : Type 0} (f : ℕ → A) (d : A) (i n k : ℕ) → k < n → get_or (map f (range i n)) k d ≡ f (i + k)
map_at f d i zero k l = absurd (omega arith)
map_at f d i (suc n) zero l = let z : i + 0 ≡ i = omega arith in rw z
map_at f d i (suc n) (suc k) l = map_at f d (suc i) n k (omega arith) ∙ (let z : suc i + k ≡ i + suc k = omega arith in ap f z)

pub listing-at : (cat tab : Bytes) (i : ℕ) → i < count tab → segment (listing cat tab) i ≡ segment_at cat tab i
unfolding listing
listing-at cat tab i l = map_at (segment_at cat tab) blank 0 (count tab) i l ∙ (let z : 0 + i ≡ i = omega arith in ap (segment_at cat tab) z)

pub listing-length : (cat tab : Bytes) → length (listing cat tab) ≡ count tab
unfolding listing
listing-length cat tab = length-map (range 0 (count tab)) (segment_at cat tab) ∙ length-range 0 (count tab)

-- LAW 24: p is the cell or above it (R20), as a test by numbers: i lies in p's run
module _ (cat : Bytes) (cs : List Segment) where
  run-some : (p : ℕ) → p < end_at cat cs p
  unfolding end_at run_at
  run-some p = omega arith

  not-row : (p i : ℕ) → ((p ≡ i) → ⊥) → is_in p (ancestors (level_at cat cs) i) ≡ false → false ≡ (leb p i && ltb i (end_at cat cs p))
  unfolding end_at run_at
  not-row p i ne e = elim (side p i) [
    | inside l ↦ elim (side i (end_at cat cs p)) [
      | inside m ↦ sym e ∙ run-ancestor (level_at cat cs) (length cs) p i l m ∙ sym (rw (le-leb p i (omega arith), lt-ltb i (end_at cat cs p) m))
      | outside m ↦ rw (le-leb p i (omega arith), le-ltb i (end_at cat cs p) m)
    ]
    | outside l ↦ rw (lt-leb p i (omega arith))
  ]

  row_in : (p i : ℕ) → i < length cs → is_in p (ancestors (level_at cat cs) i) ≡ true → true ≡ (leb p i && ltb i (end_at cat cs p))
  unfolding end_at run_at
  row_in p i l e =
      let r = ancestor-run (level_at cat cs) (length cs) p i l e in
      rw (le-leb p i (omega (arith, r.0)), lt-ltb i (end_at cat cs p) r.1)

  pub row-run : (p i : ℕ) → i < length cs → is_in p (row_at cat cs i) ≡ (leb p i && ltb i (end_at cat cs p))
  unfolding row_at
  row-run p i l = elim (is (eqb p i)) [
    | on h ↦ (let z : p ≡ i = eqb-true p i h in rw (h, z, le-leb i i (omega arith), lt-ltb i (end_at cat cs i) (run-some i)))
    | off h ↦ elim (is (is_in p (ancestors (level_at cat cs) i))) [
      | on e ↦ rw (h, e) (row_in p i l e)
      | off e ↦ rw (h, e) (not-row p i (eqb-false p i h) e)
    ]
  ]
