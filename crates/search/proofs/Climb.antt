-- The way up a path, cell by cell: what is gathered below a cell, joined with what the cell and its ancestors reach. Assumes nothing.
use Rattle.std.specs.Prelude.{Some, None, Option}
use Rattle.std.specs.Option.{is_some}
use mathlib.Core.Path.{◌≡◌, refl, ap, sym, ◌∙◌}
use mathlib.Core.Bool.{Bool, true, false}
use mathlib.Core.List.{List, [], ◌∷◌}
use Prim.Native.Nat.{ℕ, suc, ◌-◌, ◌<◌, ◌≤◌}
use native.Mathlib.Omega.{arith}
use lib.ListN.{length, drop}
use borrow.Author.Tests.{lt-ltb, le-ltb}
use Rattle.terms.specs.declared.TypeCode.{TypeCode}
use Rattle.terms.specs.declared.CellNumber.{CellNumber}
use Rattle.terms.specs.Choice.{pick}
use Rattle.terms.specs.Names.{cell}
use Rattle.forest.specs.Forest.{inside, outside, side}
use Rattle.forest.specs.Good.{both_left}
use Rattle.forest.specs.Numbers.{ancestors, is_in}
use Rattle.rules.specs.Block.{Bytes}
use Rattle.rules.specs.Catalogue.{lineage}
use Rattle.rules.specs.Cells.{Segment, segment, level_at}
use Rattle.rules.specs.Table.{count, listing}
use Rattle.rules.specs.Arguments.{Level, list_read, asked_of}
use Rattle.rules.specs.Matching.{satisfies}
use Rattle.cells.specs.Lent.{parent_at}
use Rattle.search.specs.declared.Reached.{Reached}
use Rattle.search.specs.Stretch.{levels, is_left_out, agrees_alone}
use Rattle.search.specs.Good.{Good, reached, joined, lower, from_cell, above_cell}
use Rattle.search.proofs.Carry.{head_agrees, head_implied, kept-none, try-none, tried, tried-le, tried-on, tried-off, tried-short}
use Rattle.search.proofs.Carry.{kept_tried, keeps_on, keeps-off, length-row, stretch-row, kept_row}
use Rattle.search.proofs.Levels.{implied-own}
use Rattle.search.proofs.Branches.{steps, level-some, agrees-cell, parent-none, parent-some}

-- nothing below: a stretch of n levels, and nothing kept
abbrev fresh : ℕ → Reached
fresh n = record { long = n; kept = None }

abbrev with_kept : Reached → Option CellNumber → Reached
with_kept b q = record { long = b.long; kept = q }

lower-none : (q : Option CellNumber) → lower q None ≡ q
lower-none None = refl
lower-none (Some c) = refl

lower-pick : (p : Option CellNumber) (m : Bool) (c : CellNumber) (q : Option CellNumber)
    → lower (lower p (pick m (Some c) None)) q ≡ lower p (pick m (Some c) q)
lower-pick (Some d) m c q = refl
lower-pick None true c q = refl
lower-pick None false c q = refl

-- over rows of cells, the nearest first
module _ (cat : Bytes) (cs : List Segment) (ls : List Level) where
  abbrev longest : List ℕ → ℕ
  longest row = tried cat cs ls row

  abbrev keeps : List ℕ → Option CellNumber
  keeps row = kept_tried cat cs ls row

  abbrev reaches : List ℕ → Reached
  reaches row = record { long = longest row; kept = keeps row }

  row-short : (row : List ℕ) (b : Reached) → longest row < length row → joined cat cs ls row b ≡ reaches row
  unfolding joined
  row-short row b l = rw (lt-ltb (longest row) (length row) l)

  row-full : (row : List ℕ) (b : Reached) → length row ≤ longest row → joined cat cs ls row b ≡ with_kept b (lower b.kept (keeps row))
  unfolding joined
  row-full row b l = rw (le-ltb (longest row) (length row) l)

  -- nothing is left to climb
  row-none : (b : Reached) → joined cat cs ls [] b ≡ b
  row-none b =
      row-full [] b (omega (arith, try-none cat cs ls))
      ∙ ap (with_kept b) (ap (lower b.kept) (kept-none cat cs ls None) ∙ lower-none b.kept)

  -- nothing was gathered below
  row-start : (row : List ℕ) → joined cat cs ls row (fresh (length row)) ≡ reaches row
  row-start row = elim (side (longest row) (length row)) [
    | inside l ↦ row-short row (fresh (length row)) l
    | outside l ↦
        let e : length row ≡ longest row = omega (arith, tried-le cat cs ls row) in
        row-full row (fresh (length row)) l ∙ ap (λ (n : ℕ). record { long = n; kept = keeps row }) e
  ]

  -- one cell more, i below the row
  module _ (row : List ℕ) (i : ℕ) (b : Reached) where
    reaches-off : longest (i ∷ row) ≡ longest row → joined cat cs ls (i ∷ row) b ≡ reaches row
    reaches-off e =
        let l : longest (i ∷ row) ≤ length row = omega (arith, tried-le cat cs ls row) in
        row-short (i ∷ row) b (omega arith) ∙ ap (λ (n : ℕ). record { long = n; kept = keeps (i ∷ row) }) e
        ∙ ap (λ (q : Option CellNumber). record { long = longest row; kept = q }) (keeps-off cat cs ls row i l)

    -- LAW: a cell that does not agree ends the stretch above it, and nothing gathered below counts
    row-off : head_agrees cat cs (drop (length row) ls) i ≡ false → joined cat cs ls row (fresh (length row)) ≡ joined cat cs ls (i ∷ row) b
    row-off a = row-start row ∙ sym (reaches-off (tried-off cat cs ls row i a))

    abbrev own : Option CellNumber
    own = lower b.kept (pick (head_implied cat cs (drop (length row) ls)) (Some (cell i)) None)

    -- LAW: at one that agrees the stretch goes on, and its level is kept where it is implied and nothing is kept below it
    row_on : head_agrees cat cs (drop (length row) ls) i ≡ true → joined cat cs ls row (with_kept b own) ≡ joined cat cs ls (i ∷ row) b
    row_on a = elim (side (longest row) (length row)) [
      | inside l ↦ row-short row (with_kept b own) l ∙ sym (reaches-off (tried-short cat cs ls row i l))
      | outside l ↦
          let m : Bool = head_implied cat cs (drop (length row) ls) in
          let e : longest (i ∷ row) ≡ suc (length row) = tried-on cat cs ls row i (omega (arith, tried-le cat cs ls row)) a in
          row-full row (with_kept b own) l
          ∙ ap (with_kept b) (lower-pick b.kept m (cell i) (keeps row) ∙ ap (lower b.kept) (sym (keeps_on cat cs ls row i e)))
          ∙ sym (row-full (i ∷ row) b (omega arith))
    ]

-- what is kept below goes first
lower-some : (p q : Option CellNumber) → is_some p ≡ true → lower p q ≡ p
lower-some None q e = absurd (let z : false ≡ true = e in cc)
lower-some (Some c) q e = refl

lower-other : (p q : Option CellNumber) → is_some p ≡ false → lower p q ≡ q
lower-other None q e = refl
lower-other (Some c) q e = absurd (let z : true ≡ false = e in cc)

-- over good blocks, with what the code has read
module _ {cat tab list : Bytes} {size : ℕ} {t : TypeCode} (g : Good cat tab list size t) where
  abbrev cs : List Segment
  cs = listing cat tab

  abbrev ls : List Level
  ls = levels cat list t

  abbrev lev : ℕ → ℕ
  lev = level_at cat cs

  -- a turn at cell i, whose level is l: b was gathered below it
  module _ (i l : ℕ) (b : Reached) (h : i < count tab) (e : l ≡ lev i) where
    abbrev row : List ℕ
    row = ancestors lev i

    abbrev Gives : Reached → Type 0
    Gives r = above_cell cat tab list t i r ≡ from_cell cat tab list t i b

    above-length : length row ≡ lev i - 1
    above-length = omega (arith, length-row cat cs ls (count tab) (steps g) i h)

    head-agrees : head_agrees cat cs (drop (length row) ls) i ≡ agrees_alone cat list t (segment cs i)
    head-agrees = ap (λ (n : ℕ). head_agrees cat cs (drop n ls) i) above-length ∙ agrees-cell g i l l h e

    pub turn-off : (above : ℕ) → above ≡ l - 1 → agrees_alone cat list t (segment cs i) ≡ false → Gives (fresh above)
    turn-off above f a =
        let n : above ≡ length row = omega (arith, above-length) in
        ap (λ (k : ℕ). joined cat cs ls row (fresh k)) n ∙ row-off cat cs ls row i b (head-agrees ∙ a)

    module _ (a : agrees_alone cat list t (segment cs i) ≡ true) where
      abbrev left_out : Bool
      left_out = is_left_out cat list (segment cs i).code

      head-implied : head_implied cat cs (drop (length row) ls) ≡ left_out
      unfolding agrees_alone
      head-implied =
          let u : TypeCode = (segment cs i).code in
          let s : Bool = satisfies cat (segment cs i) (asked_of cat list (list_read cat list).arguments u) in
          ap (λ (n : ℕ). head_implied cat cs (drop n ls)) above-length
          ∙ implied-own cat list (list_read cat list).arguments cs i g.catalogue t g.known (level-some g i h)
          (both_left (is_in u.0 (lineage cat t)) s a)

      turn_on : (q : Option CellNumber) → lower b.kept (pick left_out (Some (cell i)) None) ≡ q → Gives (with_kept b q)
      turn_on q x =
          let y = ap (λ (m : Bool). lower b.kept (pick m (Some (cell i)) None)) head-implied ∙ x in
          ap (λ (p : Option CellNumber). joined cat cs ls row (with_kept b p)) (sym y) ∙ row_on cat cs ls row i b (head-agrees ∙ a)

      pub turn-kept : is_some b.kept ≡ true → Gives b
      turn-kept x = turn_on b.kept (lower-some b.kept (pick left_out (Some (cell i)) None) x)

      pub turn-named : left_out ≡ false → Gives b
      turn-named m = turn_on b.kept (rw m (lower-none b.kept))

      pub turn-implied : is_some b.kept ≡ false → left_out ≡ true → Gives (with_kept b (Some (cell i)))
      turn-implied x m = turn_on (Some (cell i)) (rw m (lower-other b.kept (Some (cell i)) x))

  module _ (i : ℕ) (h : i < count tab) where
    -- the start, at the cell itself
    pub climb-start : (l : ℕ) → l ≡ lev i → from_cell cat tab list t i (fresh l) ≡ reached cat cs ls i
    unfolding reached
    climb-start l e =
        let row : List ℕ = i ∷ ancestors lev i in
        let n : l ≡ length row = omega (arith, length-row cat cs ls (count tab) (steps g) i h) in
        ap (λ (k : ℕ). joined cat cs ls row (fresh k)) n ∙ row-start cat cs ls row
        ∙ (rw (stretch-row cat cs ls (count tab) (steps g) i, kept_row cat cs ls (count tab) (steps g) i))

    -- the end, at the root
    pub climb-end : (b : Reached) → None ≡ parent_at cat cs i → b ≡ above_cell cat tab list t i b
    climb-end b e = sym (ap (λ (r : List ℕ). joined cat cs ls r b) (parent-none cat cs i e) ∙ row-none cat cs ls b)

    -- and on to the parent, one level up
    pub climb-up : (p : CellNumber) (b : Reached) → Some p ≡ parent_at cat cs i → from_cell cat tab list t p.0 b ≡ above_cell cat tab list t i b
    climb-up p b e = sym (ap (λ (r : List ℕ). joined cat cs ls r b) (parent-some cat cs i p e).1)

    pub parent-level : (p : CellNumber) → Some p ≡ parent_at cat cs i → suc (lev p.0) ≡ lev i
    parent-level p e =
        let y = parent-some cat cs i p e in
        let n : length (ancestors lev i) ≡ suc (length (ancestors lev p.0)) = ap length y.1 in
        omega (
          arith,
          y.0,
          length-row cat cs ls (count tab) (steps g) i h,
          length-row cat cs ls (count tab) (steps g) p.0 (omega (arith, y.0)),
        )
