-- The table (R10 to R14) as a block of bytes, to cells and back; its check, and the maker's bytes. Assumes nothing: these are definitions.
use Rattle.std.specs.Prelude.{Bool, ◌&&◌, ℕ, suc, ◌+◌, ◌-◌, ◌*◌, ◌/◌, leb, eqb, length, drop, replicate}
use mathlib.Core.List.{List, ◌∷◌, ◌++◌, map, flat_map}
use Rattle.terms.specs.declared.TypeCode.{TypeCode}
use Rattle.terms.specs.Names.{code}
use Rattle.forest.specs.Numbers.{range}
use Rattle.rules.specs.Block.{Bytes, byte, word, word_bytes, part, every, zeros, marked}
use Rattle.rules.specs.Catalogue.{types, length_of, largest}
use Rattle.rules.specs.Cells.{Segment, segment_of, keyed, good_listing}

-- R10: n
unfoldable pub count : Bytes → ℕ
count tab = word tab 6

module _ (cat : Bytes) where
  -- R11: C
  unfoldable pub cell_size : ℕ
  cell_size = 1 + largest cat (types cat)

  -- where cell i begins
  unfoldable pub cell_start : ℕ → ℕ
  cell_start i = 8 + i * cell_size

  module _ (tab : Bytes) where
    -- M
    unfoldable pub room : ℕ
    room = (length tab - 8) / cell_size

    unfoldable pub type_at : ℕ → TypeCode
    type_at i = code (byte tab (cell_start i))

    -- the segments of the first n cells
    unfoldable pub segment_at : ℕ → Segment
    segment_at i = segment_of cat (type_at i) (drop (suc (cell_start i)) tab)

    unfoldable pub listing : List Segment
    listing = map segment_at (range 0 (count tab))

    -- R12: some M fits
    unfoldable pub good_room : Bool
    good_room = leb 8 (length tab) && eqb (length tab) (cell_start room) && leb room 4096

    -- R13: zeros behind the data of a cell
    unfoldable pub padded : ℕ → Bool
    padded i = zeros (part tab (suc (cell_start i) + length_of cat (type_at i)) (cell_size - suc (length_of cat (type_at i))))

    -- the check of a table (R10 to R15, R89)
    unfoldable pub good_table : Bool
    good_table =
        good_room && marked 0x54 tab && eqb (byte tab 5) cell_size && leb (count tab) room
        && every padded (range 0 (count tab)) && zeros (drop (cell_start (count tab)) tab) && every (keyed cat) listing && good_listing cat listing

  -- R13: the bytes of a segment
  unfoldable pub cell_bytes : Segment → Bytes
  cell_bytes s = s.code.0 ∷ s.bytes ++ replicate (cell_size - suc (length s.bytes)) 0

  -- the block of a listing in a table of M cells; the maker of empty tables writes that of no cells
  unfoldable pub table_bytes : ℕ → List Segment → Bytes
  table_bytes m cs =
      0x48 ∷ 0x44 ∷ 0x54 ∷ 0 ∷ 1 ∷ cell_size
      ∷ (word_bytes (length cs) ++ (flat_map cell_bytes cs ++ replicate ((m - length cs) * cell_size) 0))
