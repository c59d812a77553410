-- The position's block of 8 bytes, part by part. Assumes nothing: these are definitions.
use Rattle.std.specs.Prelude.{◌≡◌, ℕ, ◌<◌, eqb, length, None, Some}
use Rattle.terms.specs.declared.Place.{Place}
use Rattle.terms.specs.declared.Place.TheVariants.{On, Before}
use Rattle.terms.specs.declared.Position.{Position}
use Rattle.terms.specs.Choice.{pick}
use Rattle.terms.specs.Names.{cell, Parentage}
use Rattle.terms.specs.Moves.{place_number}
use Rattle.rules.specs.Block.{Bytes, byte, word}

-- as they are read
abbrev pub block_place : Bytes → Place
block_place b = pick (eqb (byte b 0) 1) (On (cell (word b 1))) (Before (cell (word b 1)))

abbrev pub block_parentage : Bytes → Parentage
block_parentage b = pick (eqb (byte b 3) 1) (Some (cell (word b 4))) None

-- and as they are written
abbrev pub place_kind : Place → ℕ
place_kind (On c) = 1
place_kind (Before c) = 0

abbrev pub parentage_kind : Parentage → ℕ
parentage_kind None = 0
parentage_kind (Some c) = 1

abbrev pub parentage_number : Parentage → ℕ
parentage_number None = 0
parentage_number (Some c) = c.0

-- a position that this block has room for
pub record Writable (block : Bytes) (p : Position) : Type 0 where
  pub long : length block ≡ 8
  pub place : place_number p.place < 65536
  pub parent : parentage_number p.parentage < 65536
