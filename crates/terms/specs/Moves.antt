-- Positions (R18 to R21), and what the calls make of one. Assumes nothing: these are definitions.
use Rattle.std.specs.Prelude.{Bool, true, false, ◌&&◌, ℕ, suc, ◌+◌, ltb, leb, None, Some, is_none}
use Rattle.terms.specs.declared.CellNumber.{CellNumber}
use Rattle.terms.specs.declared.Place.{Place}
use Rattle.terms.specs.declared.Place.TheVariants.{On, Before}
use Rattle.terms.specs.declared.Position.{Position}
use Rattle.terms.specs.Choice.{pick}
use Rattle.terms.specs.Names.{cell, Parentage}

-- the cell that a place is on, or in the gap before
abbrev pub place_cell : Place → CellNumber
place_cell (On c) = c
place_cell (Before c) = c

abbrev pub place_number : Place → ℕ
place_number q = (place_cell q).0

-- the first cell after a place (R34); from a gap, the one behind it
abbrev pub after_place : Place → ℕ
after_place (On c) = suc c.0
after_place (Before c) = c.0

abbrev pub is_on : Place → Bool
is_on (On c) = true
is_on (Before c) = false

abbrev pub is_absent : Parentage → Bool
is_absent p = is_none p

-- R19: before any call
abbrev pub fresh : Position
fresh = record { place = Before (cell 0); parentage = None; hold = false }

-- R37: where a get goes
abbrev pub moved_onto : ℕ → Parentage → Bool → Position
moved_onto i parentage hold = record { place = On (cell i); parentage = parentage; hold = hold }

abbrev pub hold_dropped : Position → Position
hold_dropped p = record { place = p.place; parentage = p.parentage; hold = false }

-- R42: where ISRT goes
abbrev pub after_insert : ℕ → Bool → Position → Position
after_insert i beneath p = record { place = On (cell i); parentage = pick beneath p.parentage None; hold = false }

-- R45: the parentage, unless it is one of the n cells from i on
abbrev pub without : ℕ → ℕ → Parentage → Parentage
without i n None = None
without i n (Some p) = pick (leb i p.0 && ltb p.0 (i + n)) None (Some p)

-- R45: where DLET goes
abbrev pub after_delete : ℕ → ℕ → Position → Position
after_delete i n p = record { place = Before (cell i); parentage = without i n p.parentage; hold = false }
