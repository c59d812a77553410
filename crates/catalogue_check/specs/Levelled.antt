-- What the check of the types has found so far, and what it asks of the next. Assumes nothing: these are definitions.
use Rattle.std.specs.Prelude.{ℕ, ◌-◌, ◌*◌, ◌≤◌, ◌<◌, length}
use Rattle.rules.specs.Block.{Bytes}
use Rattle.catalogue.specs.Levels.{Ordered, Levels}

-- the types up to k are in order, and the row holds their levels
pub record Ready (cat row : Bytes) (k : ℕ) : Type 0 where
  pub ordered : Ordered cat k
  pub levels : Levels cat row k

-- type t comes next, and its entry lies within the block
pub record Next (cat row : Bytes) (t : ℕ) : Type 0 where
  pub some : 0 < t
  pub few : t ≤ 32
  pub within : 8 * t < length cat
  pub before : Ready cat row (t - 1)
