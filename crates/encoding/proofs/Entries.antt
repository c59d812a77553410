-- What a good catalogue says of its types, as the laws of the block and those above cite it. Assumes nothing.
use mathlib.Core.Path.{◌≡◌}
use mathlib.Core.Bool.{true}
use Prim.Native.Nat.{◌≤◌}
use Rattle.rules.specs.Block.{Bytes}
use Rattle.rules.specs.Catalogue.{types, good_catalogue}
use Rattle.rules.proofs.Entries.{header-facts}
pub use Rattle.rules.proofs.Entries.{type-range as is-type, length-cell}

pub good-types : (cat : Bytes) → good_catalogue cat ≡ true → (1 ≤ types cat) × (types cat ≤ 32)
good-types cat g = let h = header-facts cat g in (h.types-least, h.types-most)
