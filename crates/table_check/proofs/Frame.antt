-- What a good header gives. Assumes nothing.
use mathlib.Core.Path.{◌≡◌}
use mathlib.Core.Bool.{true, ◌&&◌}
use Prim.Native.Nat.{ℕ, ◌≤◌}
use lib.Dec.{leb, eqb}
use lib.ListN.{drop}
use borrow.Author.Tests.{leb-true}
use Rattle.forest.specs.Good.{both_left, both_right}
use Rattle.forest.specs.Numbers.{range}
use Rattle.rules.specs.Block.{Bytes, byte, every, zeros, marked}
use Rattle.rules.specs.Catalogue.{good_catalogue}
use Rattle.rules.specs.Cells.{good_listing}
use Rattle.rules.specs.Table.{count, cell_size, cell_start, room, listing, good_room, padded, good_table}
use Rattle.rules.proofs.Table.{table-keys}
use Rattle.cells.specs.Lent.{Sized}
use Rattle.cells.proofs.Start.{room-sized}
use Rattle.table_check.specs.Keys.{has_keys}
use Rattle.table_check.specs.Frame.{good_frame}
use Rattle.table_check.proofs.Stored.{keys-same}

module _ (cat tab : Bytes) where
  frame-room : good_frame cat tab ≡ true → (good_room cat tab ≡ true) × (count tab ≤ room cat tab)
  unfolding good_frame
  frame-room h =
      let a = both_left (good_room cat tab && marked 0x54 tab && eqb (byte tab 5) (cell_size cat)) (leb (count tab) (room cat tab)) h in
      let b = both_left (good_room cat tab && marked 0x54 tab) (eqb (byte tab 5) (cell_size cat)) a in
      (both_left (good_room cat tab) (marked 0x54 tab) b, leb-true (count tab) (room cat tab) (both_right (good_room cat tab && marked 0x54 tab && eqb (byte tab 5) (cell_size cat)) (leb (count tab) (room cat tab)) h))

  -- the cells of a good header lie within the slice
  pub frame-sized : (size : ℕ) → size ≡ cell_size cat → good_catalogue cat ≡ true → good_frame cat tab ≡ true → Sized cat tab size
  frame-sized size e g h = room-sized cat tab e g (frame-room h).0 (frame-room h).1

  -- the check of a table, header first, with the keys as the code looks at them
  pub table-frame : good_catalogue cat ≡ true → good_table cat tab
      ≡ (good_frame cat tab && every (padded cat tab) (range 0 (count tab)) && zeros (drop (cell_start cat (count tab)) tab) && has_keys cat tab
      && good_listing cat (listing cat tab))
  unfolding good_frame
  table-frame g = table-keys cat tab (has_keys cat tab) (keys-same cat tab g)
