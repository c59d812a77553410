-- What the check of a table has tested, by name, and back, and the check with another test of the keys: whoever relies on a good table, or compares two
-- checks, asks this file, and no law elsewhere opens `good_table`. Assumes nothing.
use mathlib.Core.Path.{◌≡◌, refl, ap, sym, ◌∙◌}
use mathlib.Core.Bool.{Bool, true, false, ◌&&◌, and-false}
use Prim.Native.Nat.{ℕ, ◌<◌}
use native.Mathlib.Omega.{arith}
use lib.Dec.{leb, eqb}
use lib.ListN.{drop}
use Rattle.forest.specs.Numbers.{range}
use Rattle.rules.specs.Block.{Bytes, byte, every, zeros, marked}
use Rattle.rules.specs.Cells.{segment, blank, keyed, good_listing}
use Rattle.rules.specs.Table.{count, cell_size, cell_start, room, listing, good_room, padded, good_table}
use Rattle.rules.proofs.Joined.{two, seven}
use Rattle.rules.proofs.Every.{every-get_d}
use Rattle.rules.proofs.Cells.{listing-length}

pub record Tested (cat tab : Bytes) : Type 0 where
  pub roomy : good_room cat tab ≡ true
  pub mark : marked 0x54 tab ≡ true
  pub size : eqb (byte tab 5) (cell_size cat) ≡ true
  pub few : leb (count tab) (room cat tab) ≡ true
  pub filled : every (padded cat tab) (range 0 (count tab)) ≡ true
  pub free : zeros (drop (cell_start cat (count tab)) tab) ≡ true
  pub keys : every (keyed cat) (listing cat tab) ≡ true
  pub cells : good_listing cat (listing cat tab) ≡ true

pub table-tests : (cat tab : Bytes) → good_table cat tab ≡ true → Tested cat tab
unfolding good_table
table-tests cat tab h =
    let p = two _ (good_listing cat (listing cat tab)) h in
    let q =
    seven (good_room cat tab) (marked 0x54 tab) (eqb (byte tab 5) (cell_size cat)) (leb (count tab) (room cat tab)) _ _
    (every (keyed cat) (listing cat tab)) p.0 in
    record { roomy = q.0; mark = q.1; size = q.2; few = q.3; filled = q.4; free = q.5; keys = q.6; cells = p.1 }

pub tests-table : (cat tab : Bytes) → Tested cat tab → good_table cat tab ≡ true
unfolding good_table
tests-table cat tab t = rw (t.roomy, t.mark, t.size, t.few, t.filled, t.free, t.keys, t.cells)

-- two that are the same where the last test holds
where-last : (a b c : Bool) → (c ≡ true → a ≡ b) → (a && c) ≡ (b && c)
where-last a b true h = ap (λ (x : Bool). x && true) (h refl)
where-last a b false h = and-false a ∙ sym (and-false b)

module _ (cat tab : Bytes) where
  -- what the check asks besides keys and cells
  abbrev framed : Bool
  framed =
      good_room cat tab && marked 0x54 tab && eqb (byte tab 5) (cell_size cat) && leb (count tab) (room cat tab)
      && every (padded cat tab) (range 0 (count tab)) && zeros (drop (cell_start cat (count tab)) tab)

  -- LAW: another test of the keys may stand in the check, where the two say the same of well-formed cells
  pub table-keys : (b : Bool) → (good_listing cat (listing cat tab) ≡ true → every (keyed cat) (listing cat tab) ≡ b)
      → good_table cat tab ≡ (framed && b && good_listing cat (listing cat tab))
  unfolding good_table
  table-keys b h =
      where-last (framed && every (keyed cat) (listing cat tab)) (framed && b) (good_listing cat (listing cat tab)) (λ w. ap (◌&&◌ framed) (h w))

-- R89: the key of each cell is a value
pub cell-keyed : (cat tab : Bytes) → good_table cat tab ≡ true → (i : ℕ) → i < count tab → keyed cat (segment (listing cat tab) i) ≡ true
cell-keyed cat tab h i l = every-get_d (keyed cat) (listing cat tab) i blank (table-tests cat tab h).keys (omega (arith, listing-length cat tab))
