-- A position and its block of 8 bytes say the same. Every position is read back from its block; every block that is one is the block of the position that is
-- read from it, byte by byte; no other block stands for a position that is good in any table. Assumes nothing: these are definitions, and the proof is in
-- proofs/.
use Rattle.terms.specs.Names.{Parentage}
use Rattle.std.specs.Prelude.{◌≡◌, true, List, ℕ, ◌<◌, None, Some}
use Rattle.terms.specs.declared.Position.{Position}
use Rattle.terms.specs.Moves.{place_number}
use Rattle.rules.specs.Block.{Bytes, byte}
use Rattle.rules.specs.Cells.{Segment}
use Rattle.rules.specs.Position.{good_position, position_bytes, good_block, position_of}

abbrev pub parent_number : Parentage → ℕ
parent_number None = 0
parent_number (Some p) = p.0

pub record Canonical : Type 0 where
  -- from a position to its block, which is a block, and back; two bytes hold a number below 65,536
  pub block : (p : Position) → good_block (position_bytes p) ≡ true
  pub bytes : (p : Position) → place_number p.place < 65536 → parent_number p.parentage < 65536 → (i : ℕ) → byte (position_bytes p) i < 256
  pub position : (p : Position) → position_of (position_bytes p) ≡ p
  -- from a block to its position and back
  pub back : (b : Bytes) → ((i : ℕ) → byte b i < 256) → good_block b ≡ true → position_bytes (position_of b) ≡ b
  -- what no table refuses is a block
  pub only : (cat : Bytes) (cs : List Segment) (b : Bytes) → good_position cat cs (position_of b) ≡ true → good_block b ≡ true
