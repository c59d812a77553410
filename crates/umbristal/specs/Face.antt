-- What a call leaves to a caller who lends the position as a block and takes the answer as one number. Assumes nothing: these are definitions.
use Rattle.std.specs.Prelude.{Bool, ◌&&◌, ℕ, ◌+◌, ◌-◌, ◌*◌, ◌<◌, leb, eqb, length}
use Rattle.terms.specs.declared.Answer.{Answer}
use Rattle.terms.specs.Statuses.{number}
use Rattle.rules.specs.Block.{Bytes, byte}
use Rattle.rules.specs.Position.{position_of}
use Rattle.rules.specs.Outcome.{Outcome, outcome, sound_outcome, block_after}
use Rattle.position.specs.Block.{Writable}
use Rattle.reports.specs.Report.{Report}
use Rattle.reports.specs.Report.{report}

-- status, type, level and length, a byte each, the first lowest; removed above them
unfoldable pub packed : Answer → ℕ
packed a = number a.status + 256 * a.code.0 + 65536 * a.level + 16777216 * a.length + 4294967296 * a.removed

-- all that a call leaves
pub record HandedBack : Type 0 where
  pub result : ℕ
  pub table : Bytes
  pub block : Bytes
  pub area : Bytes

abbrev pub handed_back : ℕ → Bytes → Bytes → Bytes → HandedBack
handed_back result table block area = record { result = result; table = table; block = block; area = area }

abbrev pub handed_back_of : Bytes → Outcome → HandedBack
handed_back_of block o = handed_back (packed o.answer) o.table (block_after block o.answer) o.area

-- the promise, and that to a caller whose blocks and position are sound
unfoldable pub face : Bytes → Bytes → Bytes → ℕ → Bytes → Bytes → HandedBack
face cat tab block c list area = handed_back_of block (outcome cat tab (position_of block) c list area)

unfoldable pub sound_face : Bytes → Bytes → Bytes → ℕ → Bytes → Bytes → HandedBack
sound_face cat tab block c list area = handed_back_of block (sound_outcome cat tab (position_of block) c list area)

-- GN with an empty list and an area that is long enough: on sound blocks no refusal is left
unfoldable pub is_step : Bytes → ℕ → Bytes → Bytes → Bool
is_step tab c list area = eqb c 2 && eqb (length list) 0 && leb (byte tab 5 - 1) (length area)

-- an answer that one number holds, with a position that is written only where the block has room for it
pub record Fitting (block : Bytes) (a : Answer) : Type 0 where
  pub removed : a.removed < 65536
  pub position : number a.status < 20 → Writable block a.position

-- a report: its status, and the number of cells it shows
unfoldable pub packed_report : Report → ℕ
packed_report r = number r.status + 4294967296 * r.hits

-- all that a report leaves
pub record ReportedBack : Type 0 where
  pub result : ℕ
  pub out : Bytes

abbrev pub reported_back : ℕ → Bytes → ReportedBack
reported_back result out = record { result = result; out = out }

-- the promise of the three
unfoldable pub report_face : Bytes → Bytes → Bytes → Bytes → Bytes → ReportedBack
report_face cat tab one two out = reported_back (packed_report (report cat tab one two out).answer) (report cat tab one two out).out
