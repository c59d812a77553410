-- Checked once, sound for good. A session is a row of calls, each on the table and at the position that the one before left. Where catalogue, table and position
-- are good at its start, they need not be checked again: the calls that do not look at 20, 21 and 22 give the same outcomes, to the byte, as those that do.
-- Assumes nothing: these are definitions, and the proof is in proofs/.
use Rattle.std.specs.Prelude.{◌≡◌, true, List, [], ◌∷◌, ℕ}
use Rattle.terms.specs.declared.Position.{Position}
use Rattle.rules.specs.Block.{Bytes}
use Rattle.rules.specs.Catalogue.{good_catalogue}
use Rattle.rules.specs.Table.{listing, good_table}
use Rattle.rules.specs.Position.{good_position}
use Rattle.rules.specs.Outcome.{Outcome, Store, sound_outcome}
use Rattle.encoding.specs.Determined.{IsBytes, All}

-- what is asked: a call by its number, with a list and an area
pub record Ask : Type 0 where
  pub call : ℕ
  pub list : Bytes
  pub area : Bytes

unfoldable pub session : Store → Bytes → Bytes → Position → List Ask → List Outcome
session store cat tab pos [] = []
session store cat tab pos (k ∷ ks) =
    let o = store cat tab pos k.call k.list k.area in
    o ∷ session store cat o.table o.answer.position ks

-- asked of a store that checks
abbrev pub CheckedOnce : Store → Type 0
CheckedOnce store =
    (cat tab : Bytes) (pos : Position) (ks : List Ask) → good_catalogue cat ≡ true → IsBytes tab → All (λ (k : Ask). IsBytes k.area) ks
    → good_table cat tab ≡ true → good_position cat (listing cat tab) pos ≡ true → session store cat tab pos ks ≡ session sound_outcome cat tab pos ks
