-- What a search asks of the lent blocks, and what a path gives it. Assumes nothing: these are definitions.
use Rattle.terms.specs.declared.CellNumber.{CellNumber}
use Rattle.std.specs.Prelude.{◌≡◌, Bool, true, ◌&&◌, not, List, ◌∷◌, ◌++◌, reverse, ℕ, ◌-◌, ◌≤◌, ◌<◌, ltb, leb, eqb, length, Some, None, Option}
use Rattle.terms.specs.declared.TypeCode.{TypeCode}
use Rattle.terms.specs.declared.Status.TheVariants.{Blank}
use Rattle.terms.specs.Choice.{pick}
use Rattle.forest.specs.Numbers.{ancestors}
use Rattle.rules.specs.Block.{Bytes, byte}
use Rattle.rules.specs.Catalogue.{types, good_catalogue}
use Rattle.rules.specs.Cells.{Segment, segment, level_at, end_at}
use Rattle.rules.specs.Table.{count, listing, good_table}
use Rattle.rules.specs.Arguments.{Level, list_read}
use Rattle.rules.specs.Matching.{path_to, matches, first_match, kept_on}
use Rattle.rules.specs.Tree.{try_path}
use Rattle.cells.specs.Lent.{Sized}
use Rattle.arguments.specs.Sound.{GoodQualification, wanted_of}
use Rattle.arguments.specs.Asked.{Pair, Row, entry_for, entry_of, test_at}
use Rattle.search.specs.declared.Reached.{Reached}
use Rattle.search.specs.Stretch.{levels, plain_above, stretch, stretch_before}

-- a good table on a good catalogue, a sound list, and a type of that catalogue or 0
pub record Good (cat tab list : Bytes) (size : ℕ) (t : TypeCode) : Type 0 where
  pub catalogue : good_catalogue cat ≡ true
  pub table : good_table cat tab ≡ true
  pub sized : Sized cat tab size
  pub sound : (list_read cat list).fault ≡ Blank
  pub known : t.0 ≤ types cat

-- the same of two lists as one
pub record Asking (cat tab one two : Bytes) (size : ℕ) (t : TypeCode) : Type 0 where
  pub good : Good cat tab (one ++ two) size t
  pub pair : Pair cat one two

-- and with the row of what they ask
pub record Told (cat tab one two row : Bytes) (size : ℕ) (t : TypeCode) : Type 0 where
  pub good : Good cat tab (one ++ two) size t
  pub pair : Pair cat one two
  pub entries : Row row (entry_of cat (one ++ two) t)

-- what a test of cell i asks: v is where the value of a test begins, of a field of the type that the cell has
pub record Testable (cat tab list : Bytes) (size i v : ℕ) : Type 0 where
  pub catalogue : good_catalogue cat ≡ true
  pub sized : Sized cat tab size
  pub cell : i < count tab
  pub behind : 3 ≤ v
  pub tests : GoodQualification cat list (segment (listing cat tab) i).code (test_at list v)

-- e is the entry of two lists as one for the type that cell i has
pub record Heeding (cat tab one two : Bytes) (size i e : ℕ) : Type 0 where
  pub pair : Pair cat one two
  pub sized : Sized cat tab size
  pub cell : i < count tab
  pub entry : e ≡ entry_for 0 (wanted_of (list_read cat (one ++ two)).arguments (segment (listing cat tab) i).code)

-- the list tests nothing but type t, and e is its entry for that
pub record Lone (cat list : Bytes) (t : TypeCode) (e : ℕ) : Type 0 where
  pub plain : plain_above cat list t ≡ true
  pub entry : e ≡ entry_for 0 (wanted_of (list_read cat list).arguments t)

-- none of the cells from `from` on and before r is a root
pub record NextRoot (cs : List Segment) (from to r : ℕ) : Type 0 where
  pub least : from ≤ r
  pub most : r ≤ to
  pub others : (j : ℕ) → from ≤ j → j < r → (segment cs j).code.0 ≡ 1 → ⊥

-- where a search beneath cell p for a list that is not empty begins: behind p, and where p's run comes up to at least
pub record Beneath (cat tab : Bytes) (t : TypeCode) (p from : ℕ) : Type 0 where
  pub some : 0 < t.0
  pub cell : p < count tab
  pub later : p < from
  pub most : from ≤ end_at cat (listing cat tab) p

-- the cell before `from`, if there is one, matches the list itself
abbrev pub Continued : Bytes → Bytes → Bytes → TypeCode → ℕ → Type 0
Continued cat tab list t from = 0 < from → matches cat (listing cat tab) (levels cat list t) (from - 1) ≡ true

-- the first argument tests another type than t
unfoldable pub begins_above : Bytes → TypeCode → Bool
begins_above list t = leb 2 (length list) && not (eqb (byte list 1) 0) && not (eqb (byte list 0) t.0)

-- the lower of what two stretches keep, p below q
abbrev pub lower : Option CellNumber → Option CellNumber → Option CellNumber
lower None q = q
lower (Some c) q = Some c

module _ (cat : Bytes) (cs : List Segment) (ls : List Level) where
  -- of the path to cell i: how far it agrees, and what of that is kept
  unfoldable pub reached : ℕ → Reached
  reached i = record { long = stretch cat cs ls i; kept = kept_on cat cs ls (path_to cat cs i) None }

  -- on the way up: what the whole path reaches, where the cells of this row, the nearest first, are still to be climbed, and b was gathered below
  -- them. A row that does not agree as a whole ends the stretch; what is kept below goes before what is kept in the row
  unfoldable pub joined : List ℕ → Reached → Reached
  joined row b =
      let long = try_path cat cs ls (reverse row) in
      let kept = kept_on cat cs ls (reverse row) None in
      pick (ltb long (length row)) (record { long = long; kept = kept }) (record { long = b.long; kept = lower b.kept kept })

module _ (cat tab list : Bytes) (t : TypeCode) where
  -- the same where cell i is still to be climbed, with its ancestors; and where its ancestors are
  abbrev pub from_cell : ℕ → Reached → Reached
  from_cell i = joined cat (listing cat tab) (levels cat list t) (i ∷ ancestors (level_at cat (listing cat tab)) i)

  abbrev pub above_cell : ℕ → Reached → Reached
  above_cell i = joined cat (listing cat tab) (levels cat list t) (ancestors (level_at cat (listing cat tab)) i)

  -- a pass from cell `from` on may go to cell r at once: what it carries is k there too, and the first match before `to` is the same
  abbrev pub Upcoming : ℕ → ℕ → ℕ → ℕ → Type 0
  Upcoming k from to r =
      (from ≤ r) × (r ≤ to) × (k ≡ stretch_before cat (listing cat tab) (levels cat list t) r)
      × (first_match cat (listing cat tab) (levels cat list t) r to ≡ first_match cat (listing cat tab) (levels cat list t) from to)
