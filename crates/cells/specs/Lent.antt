-- What a lookup by cell number asks of the lent blocks, and the parent of a cell. Assumes nothing: these are definitions.
use Rattle.terms.specs.declared.CellNumber.{CellNumber}
use Rattle.std.specs.Prelude.{◌≡◌, true, false, ◌&&◌, List, [], ◌∷◌, ℕ, suc, ◌+◌, ◌*◌, ◌≤◌, ◌<◌, ltb, leb, length, Some, None, Option}
use Rattle.terms.specs.Choice.{pick}
use Rattle.terms.specs.Names.{code, cell}
use Rattle.forest.specs.Rows.{back}
use Rattle.forest.specs.Runs.{under}
use Rattle.forest.specs.Numbers.{range, down_to, ancestors}
use Rattle.rules.specs.Block.{Bytes, byte}
use Rattle.rules.specs.Table.{count, cell_size, listing}
use Rattle.rules.specs.Catalogue.{types, length_of, is_type, type_beneath, good_catalogue}
use Rattle.rules.specs.Cells.{Segment, segment, level_at}

-- where cell i begins, and so where the cells before it end: how the cells lie in a table is said here and nowhere else
unfoldable pub start_of : Bytes → ℕ → ℕ → ℕ
start_of tab size i = 8 + i * size

-- the header and the first n cells of the table, each of this size, lie within the slice
pub record Sized (cat tab : Bytes) (size : ℕ) : Type 0 where
  pub header : 8 ≤ length tab
  pub is : size ≡ cell_size cat
  pub some : 2 ≤ size
  pub narrow : size ≤ 121
  pub few : count tab ≤ 4096
  pub within : start_of tab size (count tab) ≤ length tab

abbrev pub nearest : List ℕ → Option CellNumber
nearest [] = None
nearest (i ∷ above) = Some (cell i)

-- the parent of cell i: the nearest of its ancestors
unfoldable pub parent_at : Bytes → List Segment → ℕ → Option CellNumber
parent_at cat cs i = nearest (ancestors (level_at cat cs) i)

-- `long` data bytes from byte `start` on, counted from 1 (R5), lie within the data of cell i; without a key both are 0
pub record InData (cat tab : Bytes) (size i start long : ℕ) : Type 0 where
  pub sized : Sized cat tab size
  pub good : good_catalogue cat ≡ true
  pub cell : i < count tab
  pub known : is_type cat (segment (listing cat tab) i).code ≡ true
  pub first : start ≡ 0 → long ≡ 0
  pub last : start + long ≤ suc (length_of cat (segment (listing cat tab) i).code)

-- n cells of this size lie within the slice
pub record Inside (tab : Bytes) (size n : ℕ) : Type 0 where
  pub few : n ≤ 4096
  pub some : 1 ≤ size
  pub narrow : size ≤ 121
  pub within : start_of tab size n ≤ length tab

-- 1 for a cell whose code lies behind t and is at most `last`, and 0 for another
abbrev pub behind : Bytes → ℕ → ℕ → ℕ → ℕ → ℕ
behind tab size t last i = pick (ltb t (byte tab (start_of tab size i)) && leb (byte tab (start_of tab size i)) last) 1 0

-- the first of the n cells from i on whose code does not lie there, or the cell past them
unfoldable pub end_from : Bytes → ℕ → ℕ → ℕ → ℕ → ℕ → ℕ
end_from tab size t last i n = i + under (behind tab size t last) 0 (range i n)

-- the types beneath type t have the codes from t on, without t, up to `last`
pub record LastBeneath (cat : Bytes) (t last : ℕ) : Type 0 where
  pub least : t ≤ last
  pub most : last ≤ types cat
  pub inner : (v : ℕ) → t < v → v ≤ last → type_beneath cat (code v) (code t) ≡ true
  pub outer : (v : ℕ) → last < v → v ≤ types cat → type_beneath cat (code v) (code t) ≡ false

-- the nearest of the cells before i whose level is smaller
unfoldable pub climbed : Bytes → List Segment → ℕ → ℕ → Option CellNumber
climbed cat cs lev i = nearest (back (level_at cat cs) lev (down_to i))
