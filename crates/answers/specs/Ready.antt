-- What the calls ask of blocks, position, list and area once these have been tested. Assumes nothing: these are definitions.
use Rattle.terms.specs.Names.{Parentage}
use Rattle.std.specs.Prelude.{◌≡◌, Bool, true, List, ℕ, ◌-◌, ◌<◌, None}
use Rattle.terms.specs.declared.Position.{Position}
use Rattle.terms.specs.declared.Status.{Status}
use Rattle.terms.specs.declared.Status.TheVariants.{Blank}
use Rattle.terms.specs.declared.Answer.{Answer}
use Rattle.terms.specs.Moves.{moved_onto, after_place}
use Rattle.rules.specs.Block.{Bytes}
use Rattle.rules.specs.Catalogue.{good_catalogue}
use Rattle.rules.specs.Table.{good_table, listing}
use Rattle.rules.specs.Cells.{Segment, segment, shown_bytes}
use Rattle.rules.specs.Position.{good_position}
use Rattle.rules.specs.Arguments.{list_read, get_levels}
use Rattle.rules.specs.Matching.{matches}
use Rattle.rules.specs.Change.{nothing}
use Rattle.rules.specs.Calls.{After, over, answer_of}
use Rattle.rules.specs.Outcome.{Outcome}
use Rattle.cells.specs.Sound.{Sound}

abbrev pub made : Answer → Bytes → Bytes → Outcome
made r tab area = record { answer = r; table = tab; area = area }

-- the blocks and the position that a check accepts, and that calls keep so
pub record SoundFor (cat tab : Bytes) (pos : Position) : Type 0 where
  pub catalogue : good_catalogue cat ≡ true
  pub table : good_table cat tab ≡ true
  pub position : good_position cat (listing cat tab) pos ≡ true

-- the same with the cell size, and a list without fault
pub record Ready (cat tab : Bytes) (size : ℕ) (pos : Position) (list : Bytes) : Type 0 where
  pub sound : Sound cat tab size
  pub position : good_position cat (listing cat tab) pos ≡ true
  pub asked : (list_read cat list).fault ≡ Blank

-- the cell before the one that a get-next would look at first, if there is one, matches the list: so where get-next with this list has found the last
-- cell, or begins
abbrev pub Again : Bytes → Bytes → Bytes → Position → Type 0
Again cat tab list pos =
    0 < after_place pos.place
    → matches cat (listing cat tab) (get_levels cat list (list_read cat list).arguments) (after_place pos.place - 1) ≡ true

-- a place on a cell that is held
pub record Held (cat tab : Bytes) (size : ℕ) (pos : Position) : Type 0 where
  pub sound : Sound cat tab size
  pub position : good_position cat (listing cat tab) pos ≡ true
  pub hold : pos.hold ≡ true

-- what a get leaves: its answer and the area; the cells stay
abbrev pub left : Answer → Bytes → After
left r area = record { answer = r; change = nothing; cells = None; area = area }

-- a get that found cell i
abbrev pub got_at : Bytes → List Segment → Status → Parentage → Bool → ℕ → Bytes → After
got_at cat cs s parentage hold i area =
    left (answer_of cat s (moved_onto i parentage hold) (segment cs i) 0) (over (shown_bytes cat (segment cs i)) area)
