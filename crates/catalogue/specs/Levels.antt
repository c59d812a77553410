-- A row of type levels, one byte a type code. Assumes nothing: these are definitions.
use Rattle.std.specs.Prelude.{◌≡◌, true, ℕ, ◌*◌, ◌≤◌, ◌<◌, length}
use Rattle.terms.specs.Names.{code}
use Rattle.forest.specs.Types as Types
use Rattle.rules.specs.Block.{Bytes, byte}
use Rattle.rules.specs.Catalogue.{parent_of, level}

-- each type up to k has an entry within the block, and a parent before it
pub record Ordered (cat : Bytes) (k : ℕ) : Type 0 where
  pub few : k ≤ 32
  pub within : 8 * k < length cat
  pub lower : Types.lower (λ u. (parent_of cat (code u)).0) k ≡ true

-- the row has a byte for each code that a type can have, and holds the levels of the types up to k; type 0 has level 0
pub record Levels (cat row : Bytes) (k : ℕ) : Type 0 where
  pub long : length row ≡ 33
  pub each : (u : ℕ) → u ≤ k → byte row u ≡ level cat (code u)
