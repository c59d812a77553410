-- What the two readers are lent and what they leave: the cells up to the last one, a row of what the catalogue says of its types, and how many cells are
-- left. Assumes nothing: these are definitions.
use Rattle.std.specs.Prelude.{◌≡◌, Bool, true, ℕ, ◌+◌, ◌-◌, ◌*◌, ◌<◌, ◌≤◌, length, take, None, Some}
use Rattle.terms.specs.Names.{code}
use Rattle.forest.specs.Numbers.{range}
use Rattle.rules.specs.Block.{Bytes, byte, part}
use Rattle.rules.specs.Catalogue.{types, parent_of, key_kind, key_start, key_length, key_value, good_catalogue}
use Rattle.rules.specs.Table.{count, listing}
use Rattle.cells.specs.Lent.{Sized, Inside, start_of}
use Rattle.table_check.specs.Keys.{Valued}
use Rattle.table_check.specs.Groups.{typ, is_twin, after_group, after_twin, after_row, after_types}

-- byte k of what the row tells of type v
abbrev pub fact : Bytes → ℕ → ℕ → ℕ
fact facts v k = byte facts (4 * v + k)

-- where the cell begins from which on `left` cells are left, its type's code, and its key if it has type v
abbrev pub start_before : Bytes → Bytes → ℕ → ℕ
start_before cells facts left = length cells - left * byte facts 0

abbrev pub code_before : Bytes → Bytes → ℕ → ℕ
code_before cells facts left = byte cells (start_before cells facts left)

unfoldable pub key_before : Bytes → Bytes → ℕ → ℕ → Bytes
key_before cells facts v left = part cells (start_before cells facts left + fact facts v 2) (fact facts v 3)

-- the row has the four bytes of type v
pub record Entry (cat facts : Bytes) (v : ℕ) : Type 0 where
  pub parent : fact facts v 0 ≡ (parent_of cat (code v)).0
  pub kind : fact facts v 1 ≡ key_kind cat (code v) + 4 * key_value cat (code v)
  pub start : fact facts v 2 ≡ key_start cat (code v)
  pub long : fact facts v 3 ≡ key_length cat (code v)

-- the row has the cell size and the types up to n, and zeros else
pub record Filled (cat : Bytes) (size n : ℕ) (facts : Bytes) : Type 0 where
  pub whole : length facts ≡ 132
  pub wide : byte facts 0 ≡ size
  pub first : (k : ℕ) → 0 < k → k < 4 → fact facts 0 k ≡ 0
  pub entry : (v : ℕ) → 1 ≤ v → v ≤ n → Entry cat facts v
  pub none : (v k : ℕ) → n < v → k < 4 → fact facts v k ≡ 0

-- `left` cells of the size that the row gives lie within the slice, and every key that the row tells of lies within its cell
pub record Fits (cells facts : Bytes) (left : ℕ) : Type 0 where
  pub inside : Inside cells (byte facts 0) left
  pub keys : (v : ℕ) → fact facts v 2 + fact facts v 3 ≤ byte facts 0

-- the next cell of so many has type v, for which the row has a place
pub record Headed (cells facts : Bytes) (v left : ℕ) : Type 0 where
  pub fits : Fits cells facts left
  pub least : 1 ≤ v
  pub most : v ≤ 32
  pub some : 1 ≤ left
  pub code : code_before cells facts left ≡ v

-- the cell at which `left` are left stands behind the one at which `last` were left, and the row has a place for type v
pub record Follows (cells facts : Bytes) (v last left : ℕ) : Type 0 where
  pub fits : Fits cells facts last
  pub least : 1 ≤ v
  pub most : v ≤ 32
  pub some : 1 ≤ left
  pub behind : left ≤ last

-- The row tells of this catalogue, and the slice ends with the last cell of this table. The readers see neither: each of their answers is for every
-- catalogue and table of which this holds.
pub record Told (cat tab cells facts : Bytes) : Type 0 where
  pub good : good_catalogue cat ≡ true
  pub sized : Sized cat tab (byte facts 0)
  pub cut : cells ≡ take (start_of tab (byte facts 0) (count tab)) tab
  pub row : Filled cat (byte facts 0) (types cat) facts
  pub valued : Valued cat tab

-- the cell at which `left` are left is a twin of type v behind the one at which `last` were left
pub record TwinIs (cells facts : Bytes) (v last left : ℕ) (r : Bool) : Type 0 where
  pub is : {cat tab : Bytes} → Told cat tab cells facts → v ≤ types cat → typ cat (listing cat tab) (count tab - last) ≡ v
      → r ≡ is_twin cat (listing cat tab) v (Some (count tab - last)) (count tab - left)

-- of the last `left` cells the last r are left behind the twins of type v, and behind the row of groups under a segment of type p
pub record GroupLeaves (cells facts : Bytes) (v left r : ℕ) : Type 0 where
  pub is : {cat tab : Bytes} → Told cat tab cells facts → v ≤ types cat
      → after_group cat (listing cat tab) v None (count tab - left) left ≡ range (count tab - r) r

pub record SegmentLeaves (cells facts : Bytes) (p left r : ℕ) : Type 0 where
  pub is : {cat tab : Bytes} → Told cat tab cells facts
      → after_row cat (listing cat tab) p (count tab - left) left ≡ range (count tab - r) r

-- the twin-group reader stands at a twin, with `rest` cells left, and has read the twins before it
pub record GroupAt (cells facts : Bytes) (v left rest : ℕ) : Type 0 where
  pub type : {cat tab : Bytes} → Told cat tab cells facts → v ≤ types cat → typ cat (listing cat tab) (count tab - rest) ≡ v
  pub is : {cat tab : Bytes} → Told cat tab cells facts → v ≤ types cat
      → after_twin cat (listing cat tab) v (count tab - rest) rest ≡ after_group cat (listing cat tab) v None (count tab - left) left

-- the segment reader has read the groups of the types up to c, and `rest` cells are left
pub record SegmentAt (cells facts : Bytes) (p left c rest : ℕ) : Type 0 where
  pub is : {cat tab : Bytes} → Told cat tab cells facts
      → after_types cat (listing cat tab) p c (count tab - rest) rest ≡ after_row cat (listing cat tab) p (count tab - left) left
