-- What a checked table gives to every lookup in it. Assumes nothing: a definition.
use Rattle.std.specs.Prelude.{◌≡◌, true, ℕ}
use Rattle.rules.specs.Block.{Bytes}
use Rattle.rules.specs.Catalogue.{good_catalogue}
use Rattle.rules.specs.Table.{good_table}
use Rattle.cells.specs.Lent.{Sized}

pub record Sound (cat tab : Bytes) (size : ℕ) : Type 0 where
  pub catalogue : good_catalogue cat ≡ true
  pub table : good_table cat tab ≡ true
  pub sized : Sized cat tab size
