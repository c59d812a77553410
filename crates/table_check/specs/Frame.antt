-- The table's header, and a block of no cells. Assumes nothing: these are definitions.
use Rattle.std.specs.Prelude.{Bool, ◌&&◌, ◌∷◌, ℕ, ◌-◌, leb, eqb, length, replicate}
use Rattle.rules.specs.Block.{Bytes, byte, marked}
use Rattle.rules.specs.Table.{count, cell_size, room, good_room}

-- the header and the length of the slice: what `good_table` asks before it looks at a cell
unfoldable pub good_frame : Bytes → Bytes → Bool
good_frame cat tab = good_room cat tab && marked 0x54 tab && eqb (byte tab 5) (cell_size cat) && leb (count tab) (room cat tab)

-- header and zeros, over a slice of this length
unfoldable pub emptied : ℕ → Bytes → Bytes
emptied size tab = 0x48 ∷ 0x44 ∷ 0x54 ∷ 0 ∷ 1 ∷ size ∷ 0 ∷ 0 ∷ replicate (length tab - 8) 0
