-- Checked once, sound for good, for a caller who holds the position as 8 bytes. A session is a row of calls, each on the table and the block that the one
-- before left. Where catalogue, table and the block's position are good at its start, `umbristal_call_sound` leaves at every call what `umbristal_call`
-- leaves: the result, the table, the block and the area, to the byte. Assumes nothing: these are definitions, and the proof is in proofs/.
use Rattle.std.specs.Prelude.{◌≡◌, true, List, [], ◌∷◌, ℕ}
use Rattle.rules.specs.Block.{Bytes}
use Rattle.rules.specs.Catalogue.{good_catalogue}
use Rattle.rules.specs.Table.{listing, good_table}
use Rattle.rules.specs.Position.{good_position, position_of}
use Rattle.encoding.specs.Determined.{IsBytes, All}
use Rattle.model.specs.Session.{Ask}
use Rattle.umbristal.specs.Face.{HandedBack, face, sound_face}

-- a call on catalogue, table, block, call number, list and area
abbrev pub Face : Type 0
Face = Bytes → Bytes → Bytes → ℕ → Bytes → Bytes → HandedBack

unfoldable pub face_session : Face → Bytes → Bytes → Bytes → List Ask → List HandedBack
face_session step cat tab block [] = []
face_session step cat tab block (k ∷ ks) =
    let l = step cat tab block k.call k.list k.area in
    l ∷ face_session step cat l.table l.block ks

abbrev pub FaceCheckedOnce : Type 0
FaceCheckedOnce =
    (cat tab block : Bytes) (ks : List Ask) → good_catalogue cat ≡ true → IsBytes tab → All (λ (k : Ask). IsBytes k.area) ks
    → good_table cat tab ≡ true → good_position cat (listing cat tab) (position_of block) ≡ true
    → face_session face cat tab block ks ≡ face_session sound_face cat tab block ks
