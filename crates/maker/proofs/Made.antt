-- What the maker writes, and that it is a good table with no cells. Assumes nothing.
use mathlib.Core.Path.{◌≡◌, refl, ap, sym, ◌∙◌}
use mathlib.Core.Bool.{true, false, or-true}
use mathlib.Core.List.{[], flat_map}
use Prim.Native.Nat.{ℕ, ◌+◌, ◌-◌, ◌*◌, ◌/◌, ◌≤◌}
use native.Mathlib.Omega.{arith}
use lib.ListN.{length, drop, length-replicate}
use borrow.Author.Tests.{le-leb, eq-eqb}
use Rattle.terms.specs.declared.Status.{Status}
use Rattle.terms.specs.declared.Status.TheVariants.{Blank, CX, TX}
use Rattle.terms.specs.Statuses.{number}
use Rattle.forest.specs.Forest.{forest_of}
use Rattle.forest.specs.Good.{on, off, is, formed}
use Rattle.rules.specs.Block.{Bytes, byte, word, every, zeros, marked}
use Rattle.rules.specs.Catalogue.{good_catalogue}
use Rattle.rules.specs.Cells.{good_listing}
use Rattle.rules.specs.Table.{count, cell_size, cell_start, room, listing, good_room, good_table, table_bytes}
use Rattle.rules.specs.Outcome.{make_status, made_table}
use Rattle.rules.proofs.Every.{zeros-row}
use Rattle.table_check.specs.Keys.{plain_keys, has_keys}
use Rattle.table_check.specs.Frame.{good_frame, emptied}
use Rattle.table_check.proofs.Space.{room-is}
use Rattle.table_check.proofs.Frame.{table-frame}

pub emptied-length : (size : ℕ) (tab : Bytes) → 8 ≤ length tab → length (emptied size tab) ≡ length tab
unfolding emptied
emptied-length size tab h = omega (arith, length-replicate {A = ℕ} (length tab - 8) 0)

unlike : {s : Status} → s ≡ Blank → (number s ≡ 0 → ⊥) → ⊥
unlike e n = n (ap number e)

module _ (cat tab : Bytes) where
  -- header and zeros are the block of no cells
  pub emptied-is : good_room cat tab ≡ true → emptied (cell_size cat) tab ≡ table_bytes cat (room cat tab) []
  unfolding emptied table_bytes flat_map
  emptied-is h =
      let r = room-is cat tab h in
      let z : length tab - 8 ≡ (room cat tab - 0) * cell_size cat = (let y : room cat tab - 0 ≡ room cat tab = omega arith in rw y (omega (arith, r.1))) in
      rw z

  -- CX, TX, done
  pub made-refused : good_catalogue cat ≡ false → (CX ≡ make_status cat tab) × (tab ≡ made_table cat tab)
  unfolding make_status made_table
  made-refused g = (rw g, rw (make_status, g))

  pub made-unfit : good_catalogue cat ≡ true → good_room cat tab ≡ false → (TX ≡ make_status cat tab) × (tab ≡ made_table cat tab)
  unfolding make_status made_table
  made-unfit g h = (rw (g, h), rw (make_status, g, h))

  pub made-done : (size : ℕ) (y : Bytes) → size ≡ cell_size cat → y ≡ emptied size tab
      → good_catalogue cat ≡ true → good_room cat tab ≡ true → (Blank ≡ make_status cat tab) × (y ≡ made_table cat tab)
  unfolding make_status made_table
  made-done size y e f g h = (rw (g, h), f ∙ rw (e, make_status, g, h) (emptied-is h))

  -- what the answer tells
  pub made-from : make_status cat tab ≡ Blank → (good_catalogue cat ≡ true) × (good_room cat tab ≡ true)
  made-from e = elim (is (good_catalogue cat)) [
    | on g ↦ elim (is (good_room cat tab)) [
      | on h ↦ (g, h)
      | off h ↦ absurd (unlike ((made-unfit g h).0 ∙ e) (λ z. omega arith))
    ]
    | off g ↦ absurd (unlike ((made-refused g).0 ∙ e) (λ z. omega arith))
  ]

  pub made-is : make_status cat tab ≡ Blank → made_table cat tab ≡ emptied (cell_size cat) tab
  made-is e = let f = made-from e in sym (made-done (cell_size cat) (emptied (cell_size cat) tab) refl refl f.0 f.1).1

module _ (cat tab : Bytes) (e : make_status cat tab ≡ Blank) where
  made-length : length (made_table cat tab) ≡ length tab
  made-length = ap length (made-is cat tab e) ∙ emptied-length (cell_size cat) tab (room-is cat tab (made-from cat tab e).1).0

  -- LAW: a table made empty has no cells ..
  pub made-count : count (made_table cat tab) ≡ 0
  unfolding count emptied
  made-count = ap (λ (b : Bytes). word b 6) (made-is cat tab e)

  -- .. the room that its slice gives ..
  pub made-room : room cat (made_table cat tab) ≡ room cat tab
  unfolding room
  made-room = ap (λ (n : ℕ). (n - 8) / cell_size cat) made-length

  fits : good_room cat (made_table cat tab) ≡ true
  unfolding good_room
  fits = rw (made-length, made-room) (made-from cat tab e).1

  frame : good_frame cat (made_table cat tab) ≡ true
  unfolding good_frame marked emptied
  frame =
      let b : byte (made_table cat tab) 5 ≡ cell_size cat = ap (λ (x : Bytes). byte x 5) (made-is cat tab e) in
      let m : marked 0x54 (made_table cat tab) ≡ true = ap (marked 0x54) (made-is cat tab e) in
      rw (fits, m, eq-eqb (byte (made_table cat tab) 5) (cell_size cat) b, made-count, le-leb 0 (room cat (made_table cat tab)) (omega arith))

  free : zeros (drop (cell_start cat 0) (made_table cat tab)) ≡ true
  unfolding cell_start emptied
  free = let z : 8 + 0 * cell_size cat ≡ 8 = omega arith in rw (made-is cat tab e, z) (zeros-row (length tab - 8))

  none : good_listing cat (listing cat (made_table cat tab)) ≡ true
  unfolding good_listing listing forest_of formed
  none = rw made-count

  -- no cell, and so no key that is no value
  keys : has_keys cat (made_table cat tab) ≡ true
  unfolding has_keys listing every
  keys = rw made-count (or-true (plain_keys cat))

  -- .. and is good
  pub made-good : good_table cat (made_table cat tab) ≡ true
  unfolding every
  made-good = table-frame cat (made_table cat tab) (made-from cat tab e).0 ∙ rw (frame, keys, none, made-count, free)
