-- Positions (R18 to R22): which are good; and the block of 8 bytes (R23). Assumes nothing: these are definitions.
use Rattle.std.specs.Prelude.{Bool, true, ◌&&◌, not, List, [], ◌∷◌, ◌++◌, ltb, leb, eqb, length, None, Some}
use Rattle.terms.specs.declared.Place.{Place}
use Rattle.terms.specs.declared.Place.TheVariants.{On, Before}
use Rattle.terms.specs.declared.Position.{Position}
use Rattle.terms.specs.Choice.{pick}
use Rattle.terms.specs.Names.{cell, Parentage}
use Rattle.forest.specs.Numbers.{is_in}
use Rattle.rules.specs.Block.{Bytes, byte, word, word_bytes}
use Rattle.rules.specs.Cells.{Segment, end_at, row_at}

-- which are good, in a table with these cells
module _ (cat : Bytes) (cs : List Segment) where
  -- R18: places that there are
  abbrev pub good_place : Place → Bool
  good_place (On c) = ltb c.0 (length cs)
  good_place (Before c) = leb c.0 (length cs)

  -- R20: which parentage may go with a place
  abbrev pub good_parentage : Place → Parentage → Bool
  good_parentage q None = true
  good_parentage (On c) (Some p) = is_in p.0 (row_at cat cs c.0)
  good_parentage (Before c) (Some p) = ltb p.0 c.0 && leb c.0 (end_at cat cs p.0)

  -- R21: a hold is on a cell
  abbrev pub good_hold : Place → Bool → Bool
  good_hold (On c) h = true
  good_hold (Before c) h = not h

  unfoldable pub good_position : Position → Bool
  good_position p = good_place p.place && good_parentage p.place p.parentage && good_hold p.place p.hold

-- The block: place kind (0 gap, 1 on a cell), cell number, parentage (0 absent, 1 present), its cell number, hold, zero.
abbrev pub place_bytes : Place → Bytes
place_bytes (Before c) = 0 ∷ word_bytes c.0
place_bytes (On c) = 1 ∷ word_bytes c.0

abbrev pub parentage_bytes : Parentage → Bytes
parentage_bytes None = 0 ∷ 0 ∷ 0 ∷ []
parentage_bytes (Some c) = 1 ∷ word_bytes c.0

unfoldable pub position_bytes : Position → Bytes
position_bytes p = place_bytes p.place ++ (parentage_bytes p.parentage ++ (pick p.hold 1 0 ∷ 0 ∷ []))

-- R23: a hold in a gap, which no table has, stands for every block that is none
abbrev pub nowhere : Position
nowhere = record { place = Before (cell 0); parentage = None; hold = true }

unfoldable pub good_block : Bytes → Bool
good_block b =
    eqb (length b) 8 && leb (byte b 0) 1 && leb (byte b 3) 1 && leb (byte b 6) 1 && eqb (byte b 7) 0
    && pick (eqb (byte b 3) 1) true (eqb (word b 4) 0)

unfoldable pub position_of : Bytes → Position
position_of b =
    pick (good_block b)
    (record { place = pick (eqb (byte b 0) 1) (On (cell (word b 1))) (Before (cell (word b 1))); parentage = pick (eqb (byte b 3) 1) (Some (cell (word b 4))) None; hold = eqb (byte b 6) 1 })
    nowhere
