-- The listing cut into the lines of its calls. Assumes nothing: these are definitions.
use Rattle.std.specs.Prelude.{◌≡◌, Bool, not, [], ◌≤◌, ltb, leb, length, replicate}
use Rattle.terms.specs.declared.Position.{Position}
use Rattle.terms.specs.declared.Status.{Status}
use Rattle.terms.specs.declared.Status.TheVariants.{CX, TX}
use Rattle.terms.specs.Choice.{pick}
use Rattle.terms.specs.Statuses.{number}
use Rattle.rules.specs.Block.{Bytes}
use Rattle.rules.specs.Catalogue.{good_catalogue}
use Rattle.rules.specs.Outcome.{Outcome, outcome, check_table}
use Rattle.rules.specs.Listing.{cell_line, last_line}
use Rattle.answers.specs.Ready.{SoundFor}
use Rattle.listing.specs.declared.Line.{Line}
use Rattle.listing.specs.Written.{Wrote}

-- the GN of the listing at a position
abbrev pub issued : Bytes → Bytes → Position → Outcome
issued cat tab pos = outcome cat tab pos 2 [] (replicate 120 0)

-- "to the first GB or refusal"
abbrev pub ends_listing : Outcome → Bool
ends_listing o = leb 10 (number o.answer.status)

unfoldable pub line_of : Outcome → Bytes
line_of o = pick (ends_listing o) (last_line o.answer.status) (cell_line o.answer o.area)

-- a line in the buffer, and what the next one needs
pub record Listed (cat tab : Bytes) (pos : Position) (before : Bytes) (r : Line) (after : Bytes) : Type 0 where
  pub position : r.position ≡ (issued cat tab pos).answer.position
  pub done : r.done ≡ ends_listing (issued cat tab pos)
  pub text : Wrote 0 (line_of (issued cat tab pos)) before r.long after
  pub fits : r.long ≤ length after
  pub sound : SoundFor cat tab r.position

-- what is refused before the first call, as the checks say it
unfoldable pub listing_refusal : Bytes → Bytes → Status
listing_refusal cat tab = pick (not (good_catalogue cat)) CX (pick (ltb 65536 (length tab)) TX (check_table cat tab))
