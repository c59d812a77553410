-- What a loop of gets asks of blocks and lists once nothing is refused. Assumes nothing: these are definitions.
use Rattle.std.specs.Prelude.{◌≡◌, ◌++◌, ℕ, ◌<◌, length}
use Rattle.terms.specs.declared.Status.TheVariants.{Blank}
use Rattle.rules.specs.Block.{Bytes}
use Rattle.rules.specs.Arguments.{list_read}
use Rattle.cells.specs.Sound.{Sound}

-- sound blocks, and a list of at least one argument, without fault
pub record Given (cat tab list : Bytes) (size : ℕ) : Type 0 where
  pub sound : Sound cat tab size
  pub read : (list_read cat list).fault ≡ Blank
  pub some : 0 < length list

-- two of them that are one list
pub record GivenBoth (cat tab one two : Bytes) (size : ℕ) : Type 0 where
  pub first : Given cat tab one size
  pub second : Given cat tab two size
  pub joined : Given cat tab (one ++ two) size
