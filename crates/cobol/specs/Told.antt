-- What stands behind the face for COBOL: the parts that a block tells of a result are the answer's own, and a length that fits its block counts as it is
-- written. Assumes nothing: these are statements, and their proofs are in proofs/.
use Rattle.std.specs.Prelude.{◌≡◌, ℕ, ◌<◌, ◌≤◌}
use Rattle.terms.specs.declared.Answer.{Answer}
use Rattle.terms.specs.Statuses.{number}
use Rattle.rules.specs.Block.{Bytes}
use Rattle.reports.specs.Report.{Report}
use Rattle.parts.specs.Result.{status_part, type_part, level_part, length_part, removed_part}
use Rattle.umbristal.specs.Face.{packed, packed_report}
use Rattle.cobol.specs.Lent.{written, length_at}

-- a byte holds each of these, and two hold what was removed
pub record Fits (a : Answer) : Type 0 where
  pub code_fits : a.code.0 < 256
  pub level-fits : a.level < 256
  pub length-fits : a.length < 256
  pub removed-fits : a.removed < 65536

-- the five parts of a number
pub record Parts (r status code level length removed : ℕ) : Type 0 where
  pub status-told : status_part r ≡ status
  pub type-told : type_part r ≡ code
  pub level-told : level_part r ≡ level
  pub length-told : length_part r ≡ length
  pub removed-told : removed_part r ≡ removed

abbrev pub AnswerTold : Type 0
AnswerTold = (a : Answer) → Fits a → Parts (packed a) (number a.status) a.code.0 a.level a.length a.removed

abbrev pub ReportTold : Type 0
ReportTold = (r : Report) → r.hits < 65536 → Parts (packed_report r) (number r.status) 0 0 0 r.hits

abbrev pub CountsAsWritten : Type 0
CountsAsWritten = (ask : Bytes) (i most : ℕ) → written ask i ≤ most → length_at ask i most ≡ written ask i
