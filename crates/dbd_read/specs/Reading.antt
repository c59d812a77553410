-- What the lines of a text leave. Assumes nothing: these are definitions.
use Rattle.std.specs.Prelude.{◌≡◌, [], ℕ, ◌≤◌, ◌<◌, length, Result, Ok, Err, OnOk}
use Rattle.rules.specs.Block.{Bytes, byte, part}
use Rattle.rules.specs.Catalogue.{types, fields}
use Rattle.statements.specs.Draft.{blank, header}
use Rattle.statements.specs.Dbd.{Reading as Answer, given}
use Rattle.dbd_draft.specs.Kept.{draft_of, fault_of, Sound}
use Rattle.dbd_read.specs.declared.LineFault.{LineFault}

-- the blocks of a draft fit its array, and it has the header of a catalogue
pub record Wide (b : Bytes) : Type 0 where
  pub long : length b ≡ 1296
  pub few : types b ≤ 32
  pub few_fields : fields b ≤ 64
  pub headed : part b 0 8 ≡ header 0x43 (types b) (fields b)
  pub based : 0 < byte b 520

-- the same, with T and F as numbers
pub record Counted (b : Bytes) (top last : ℕ) : Type 0 where
  pub fits : Wide b
  pub types : top ≡ types b
  pub fields : last ≡ fields b

-- the draft before the first line
pub record Fresh (b levels : Bytes) : Type 0 where
  pub sound : Sound b levels
  pub empty : draft_of b ≡ blank

-- a reading, by what it says and by the draft
abbrev pub read_as : Result (Unit {0}) LineFault → Bytes → Answer
read_as (Ok _) b = given (draft_of b)
read_as (Err e) b = record { fault = fault_of e.fault; line = e.line; types = 0; fields = 0; catalogue = []; names = [] }

pub record Read (r : Result (Unit {0}) LineFault) (b : Bytes) (a : Answer) : Type 0 where
  pub same : read_as r b ≡ a
  pub wide : OnOk r (Wide b)
