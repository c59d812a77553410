-- R14: a table's bytes, its cells and its forest determine each other.
--   From a table to a forest: the bytes of a table that the check takes are those of its cells in its room, and its cells are the listing of one
--   well-formed forest and of no other.
--   From a forest to a table: every well-formed forest of segments that fit, of no more segments than the table has room for, is the forest of one
--   table that the check takes and of no other.
-- So a call that changes the cells has said what each byte of the table is, and a table says nothing that its forest does not. Assumes nothing: these
-- are definitions, and the proof is in proofs/.
use Rattle.std.specs.Prelude.{◌≡◌, true, List, [], ◌∷◌, ℕ, ◌<◌, ◌≤◌, length}
use Rattle.forest.specs.Forest.{Forest, cells_of, forest_of}
use Rattle.forest.specs.Good.{formed}
use Rattle.rules.specs.Block.{Bytes, byte}
use Rattle.rules.specs.Catalogue.{length_of, is_type, good_catalogue}
use Rattle.rules.specs.Cells.{Segment, type_number, keyed, is_child, siblings, segment_level}
use Rattle.rules.specs.Table.{room, listing, good_table, table_bytes}

-- what every slice has: each byte is below 256
abbrev pub IsBytes : Bytes → Type 0
IsBytes b = (i : ℕ) → byte b i < 256

-- it holds of each one
abbrev pub All : {A : Type 0} → (A → Type 0) → List A → Type 0
All P [] = Unit {0}
All P (x ∷ xs) = P x × All P xs

-- a segment that a cell can hold: one of a type of the catalogue, with as many bytes as that type has, whose key is a value
pub record Fits (cat : Bytes) (s : Segment) : Type 0 where
  pub known : is_type cat s.code ≡ true
  pub long : length s.bytes ≡ length_of cat s.code
  pub bytes : IsBytes s.bytes
  pub valued : keyed cat s ≡ true

module _ (cat : Bytes) where
  -- R14 and R15 of a forest: which types stand where, with the twins in the order of their keys
  abbrev pub IsFormed : Forest Segment → Type 0
  IsFormed f = formed type_number (is_child cat) (siblings cat) 0 f ≡ true

  -- the forest of a table's cells; the table of a forest, with room for m cells
  abbrev pub forest_in : Bytes → Forest Segment
  forest_in tab = forest_of (segment_level cat) (listing cat tab)

  abbrev pub table_of : ℕ → Forest Segment → Bytes
  table_of m f = table_bytes cat m (cells_of f)

  pub record OneForest (tab : Bytes) : Type 0 where
    -- it is well formed, of segments that fit, and there is room for them
    pub shaped : IsFormed (forest_in tab)
    pub fits : All (Fits cat) (cells_of (forest_in tab))
    pub few : length (cells_of (forest_in tab)) ≤ room cat tab
    -- its listing is the table's cells, and no other well-formed forest has that listing
    pub cells : cells_of (forest_in tab) ≡ listing cat tab
    pub only : (f : Forest Segment) → IsFormed f → cells_of f ≡ listing cat tab → f ≡ forest_in tab
    -- it and the room give back each byte
    pub whole : table_of (room cat tab) (forest_in tab) ≡ tab

  pub record OneTable (m : ℕ) (f : Forest Segment) : Type 0 where
    -- the check takes it, it is a slice of bytes with this room
    pub good : good_table cat (table_of m f) ≡ true
    pub bytes : IsBytes (table_of m f)
    pub roomy : room cat (table_of m f) ≡ m
    -- its cells are the forest's listing, its forest is this one
    pub cells : listing cat (table_of m f) ≡ cells_of f
    pub forest : forest_in (table_of m f) ≡ f
    -- and no other table has this room and this forest
    pub only : (tab : Bytes) → IsBytes tab → good_table cat tab ≡ true → room cat tab ≡ m → forest_in tab ≡ f → tab ≡ table_of m f

abbrev pub TableToForest : Type 0
TableToForest = (cat tab : Bytes) → good_catalogue cat ≡ true → IsBytes tab → good_table cat tab ≡ true → OneForest cat tab

abbrev pub ForestToTable : Type 0
ForestToTable =
    (cat : Bytes) (m : ℕ) (f : Forest Segment) → good_catalogue cat ≡ true → m ≤ 4096 → IsFormed cat f → All (Fits cat) (cells_of f)
    → length (cells_of f) ≤ m → OneTable cat m f
