-- What sound blocks and a list without fault give to those who read by them. Assumes nothing.
use mathlib.Core.Path.{◌≡◌, sym, ◌∙◌}
use Prim.Native.Nat.{ℕ}
use Rattle.terms.specs.declared.TypeCode.{TypeCode}
use Rattle.rules.specs.Block.{Bytes, byte}
use Rattle.rules.specs.Arguments.{list_read, last_argument}
use Rattle.cells.proofs.Located.{good-housed}
use Rattle.arguments.specs.Sound.{SoundList}
use Rattle.arguments.specs.Asked.{Pair}
use Rattle.search.specs.Good.{Good}
use Rattle.search.proofs.Branches.{known-last}
use Rattle.reports.specs.Given.{Given, GivenBoth}

module _ {cat tab list : Bytes} {size : ℕ} (g : Given cat tab list size) where
  pub sound-list : SoundList cat list
  sound-list = record { catalogue = g.sound.catalogue; read = g.read }

  pub given-good : (t : TypeCode) → t ≡ (last_argument (list_read cat list).arguments).code → Good cat tab list size t
  given-good t e = record {
    catalogue = g.sound.catalogue;
    table = g.sound.table;
    sized = g.sound.sized;
    sound = g.read;
    known = rw e (known-last cat list sound-list);
  }

  -- the size is the one that the table tells
  pub told-size : size ≡ byte tab 5
  told-size = g.sound.sized.is ∙ sym (good-housed cat tab g.sound.table).told

-- two lists that are one are a pair
pub both-pair : {cat tab one two : Bytes} {size : ℕ} → GivenBoth cat tab one two size → Pair cat one two
both-pair g = record { first = sound-list g.first; second = sound-list g.second; joined = sound-list g.joined }
