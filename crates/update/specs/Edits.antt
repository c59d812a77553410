-- The table with other cells, and what a change of its cells asks for. Assumes nothing: these are definitions.
use Rattle.std.specs.Prelude.{◌≡◌, true, List, ◌∷◌, ◌++◌, ℕ, ◌≤◌, ◌<◌, length, take, drop, set}
use Rattle.terms.specs.declared.TypeCode.{TypeCode}
use Rattle.rules.specs.Block.{Bytes}
use Rattle.rules.specs.Catalogue.{length_of, is_type}
use Rattle.rules.specs.Cells.{Segment, segment, arriving}
use Rattle.rules.specs.Table.{count, room, listing, table_bytes}
use Rattle.cells.specs.Sound.{Sound}

module _ (cat tab : Bytes) where
  -- the cells of the table
  abbrev cells : List Segment
  cells = listing cat tab

  -- the block of the same room with these cells
  abbrev with_cells : List Segment → Bytes
  with_cells cs = table_bytes cat (room cat tab) cs

  -- a cell of type t, from the front of the area, put in before cell r
  unfoldable pub with_cell : ℕ → TypeCode → Bytes → Bytes
  with_cell r t area = with_cells (take r cells ++ arriving cat t area ∷ drop r cells)

  -- the data of cell i taken from the front of the area
  unfoldable pub with_data : ℕ → Bytes → Bytes
  with_data i area = with_cells (set cells i (arriving cat (segment cells i).code area))

  -- the cells from i up to e taken out
  unfoldable pub without_cells : ℕ → ℕ → Bytes
  without_cells i e = with_cells (take i cells ++ drop e cells)

  -- there is a free cell, the new cell has a type of the catalogue, and the area has its data
  pub record Insertable (size r : ℕ) (t : TypeCode) (area : Bytes) : Type 0 where
    pub sound : Sound cat tab size
    pub place : r ≤ count tab
    pub free : count tab < room cat tab
    pub known : is_type cat t ≡ true
    pub long : length_of cat t ≤ length area

  -- cell i is in use, and the area has as many bytes as its type
  pub record Replaceable (size i : ℕ) (area : Bytes) : Type 0 where
    pub sound : Sound cat tab size
    pub used : i < count tab
    pub long : length_of cat (segment cells i).code ≤ length area

  -- the cells from i up to e are in use
  pub record Removable (size i e : ℕ) : Type 0 where
    pub sound : Sound cat tab size
    pub order : i ≤ e
    pub used : e ≤ count tab
