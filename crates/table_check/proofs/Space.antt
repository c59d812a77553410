-- How many cells a slice has room for. Assumes nothing.
use mathlib.Core.Path.{◌≡◌, refl, sym}
use mathlib.Core.Bool.{true, ◌&&◌}
use Prim.Native.Nat.{ℕ, ◌+◌, ◌-◌, ◌*◌, ◌<◌, ◌≤◌}
use native.Mathlib.Nat.{div-mul-le_self, zero-div}
use native.Mathlib.Omega.{arith}
use lib.Dec.{leb, eqb}
use lib.ListN.{length}
use borrow.Author.Tests.{leb-true, eqb-true}
use Rattle.rules.specs.Block.{Bytes}
use Rattle.rules.specs.Table.{cell_size, cell_start, room, good_room}
use Rattle.rules.proofs.Joined.{three}

module _ (cat tab : Bytes) where
  pub room-none : length tab < 8 → 0 ≡ room cat tab
  unfolding room
  room-none h = let z : length tab - 8 ≡ 0 = omega arith in sym (rw z (zero-div (cell_size cat)))

  -- the room and the cell size, as the code has read them
  module _ (m size : ℕ) (e : m ≡ room cat tab) (f : size ≡ cell_size cat) where
    pub room_fits : m * size ≤ length tab - 8
    unfolding room
    room_fits = rw (e, f) (div-mul-le_self (length tab - 8) (cell_size cat))

  -- the three tests
  pub room-tests : (leb 8 (length tab) && eqb (length tab) (8 + room cat tab * cell_size cat) && leb (room cat tab) 4096) ≡ good_room cat tab
  unfolding good_room cell_start
  room-tests = refl

  -- what a good room is, by numbers
  pub room-is : good_room cat tab ≡ true → (8 ≤ length tab) × (length tab ≡ 8 + room cat tab * cell_size cat) × (room cat tab ≤ 4096)
  unfolding good_room cell_start
  room-is h =
      let q = three (leb 8 (length tab)) (eqb (length tab) (8 + room cat tab * cell_size cat)) (leb (room cat tab) 4096) h in
      (leb-true 8 (length tab) q.0, eqb-true (length tab) (8 + room cat tab * cell_size cat) q.1, leb-true (room cat tab) 4096 q.2)
