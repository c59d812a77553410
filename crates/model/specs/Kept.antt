-- Tables stay good. Whoever starts with a good catalogue, a good table and a good position, and goes on with what each call leaves, never meets CX, TX or PX:
-- after every call, whichever it is and whatever it answers, the table is good and has the same room, the position is good in it, and the area is as long as it
-- was. No call invents what it counts: the cells before, with the one inserted, are the cells after, with those removed. And of the table no more changes
-- than R47 says: the cell concerned is at the place where the call leaves the position.
-- Assumes nothing: these are definitions, and the proof is in proofs/.
use Rattle.std.specs.Prelude.{◌≡◌, Bool, true, false, ◌&&◌, ℕ, ◌+◌, ◌*◌, leb, length, take}
use Rattle.terms.specs.declared.Position.{Position}
use Rattle.terms.specs.declared.Status.{Status}
use Rattle.terms.specs.Choice.{pick}
use Rattle.terms.specs.Moves.{place_number}
use Rattle.rules.specs.Block.{Bytes, part}
use Rattle.rules.specs.Catalogue.{good_catalogue}
use Rattle.rules.specs.Table.{count, cell_size, room, listing, good_table}
use Rattle.rules.specs.Position.{good_position}
use Rattle.rules.specs.Outcome.{Outcome, Store, is_blank, is_isrt}
use Rattle.encoding.specs.Determined.{IsBytes}

-- the cells that a call inserts: one, exactly when it is an ISRT that is done
abbrev pub inserts : ℕ → Status → ℕ
inserts c s = pick (is_isrt c && is_blank s) 1 0

-- ISRT, REPL or DLET (7, 8, 9), and done
abbrev pub writes : ℕ → Status → Bool
writes c s = leb 7 c && is_blank s

-- the cell concerned: the new one, the one replaced, the one where the run began
abbrev pub concerned : Outcome → ℕ
concerned o = place_number o.answer.position.place

-- what a call c on this table and area keeps
pub record Kept (cat tab area : Bytes) (c : ℕ) (o : Outcome) : Type 0 where
  pub table : good_table cat o.table ≡ true
  pub bytes : IsBytes o.table
  pub roomy : room cat o.table ≡ room cat tab
  pub position : good_position cat (listing cat o.table) o.answer.position ≡ true
  pub counted : count o.table + o.answer.removed ≡ count tab + inserts c o.answer.status
  -- the bytes before the count, and those of the cells before the one concerned
  pub head : take 6 o.table ≡ take 6 tab
  pub front : part o.table 8 (concerned o * cell_size cat) ≡ part tab 8 (concerned o * cell_size cat)
  pub only : writes c o.answer.status ≡ false → o.table ≡ tab
  pub long : length o.area ≡ length area
  pub filled : IsBytes o.area

-- asked of a store
abbrev pub TablesStayGood : Store → Type 0
TablesStayGood store =
    (cat tab : Bytes) (pos : Position) (c : ℕ) (list area : Bytes) → good_catalogue cat ≡ true → IsBytes tab → IsBytes area → good_table cat tab ≡ true
    → good_position cat (listing cat tab) pos ≡ true → Kept cat tab area c (store cat tab pos c list area)
