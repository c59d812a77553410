-- What a report answers, however it is made: by get-next with get-next-within-parent under each, by get-next alone on the joined list, or by reading
-- every cell. Assumes nothing: these are definitions.
use Rattle.std.specs.Prelude.{◌≡◌, ◌||◌, not, List, ◌++◌, ℕ, ◌*◌, ltb, eqb, length, Result, Ok, Err}
use Rattle.terms.specs.declared.Status.{Status}
use Rattle.terms.specs.declared.Status.TheVariants.{Blank, AC, AB}
use Rattle.terms.specs.Choice.{pick}
use Rattle.terms.specs.Statuses.{number}
use Rattle.rules.specs.Block.{Bytes}
use Rattle.rules.specs.Arguments.{list_read}
use Rattle.rules.specs.Calls.{over}
use Rattle.rules.specs.Outcome.{is_blank, check_table}
use Rattle.report_loops.specs.Plain.{picked}
use Rattle.reports.specs.Shown.{hit_bytes}

-- how a report ended, and how many cells it shows
pub record Report : Type 0 where
  pub status : Status
  pub hits : ℕ

-- what its result tells: how many cells are shown, or the refusal, which shows none
abbrev pub told : Result ℕ Status → Report
told (Ok hits) = record { status = Blank; hits = hits }
told (Err s) = record { status = s; hits = 0 }

-- a status that refuses: no report is refused by blank
abbrev pub IsRefusal : Status → Type 0
IsRefusal s = number s ≡ 0 → ⊥

-- all that a report leaves: its answer, and the bytes lent for the hits
pub record Reported : Type 0 where
  pub answer : Report
  pub out : Bytes

abbrev pub reported : Report → Bytes → Reported
reported r out = record { answer = r; out = out }

-- the faults of two lists that are to be one: the first fault of the first; AC where a list is empty; then the first fault of the joined list, in which
-- the second is read on behind the first (AC: it does not begin beneath it)
unfoldable pub lists_fault : Bytes → Bytes → Bytes → Status
lists_fault cat one two =
    pick (not (is_blank (list_read cat one).fault)) (list_read cat one).fault
    (pick (eqb (length one) 0 || eqb (length two) 0) AC
    (list_read cat (one ++ two)).fault)

-- CX, TX, then the lists
unfoldable pub report_refusal : Bytes → Bytes → Bytes → Bytes → Status
report_refusal cat tab one two = pick (not (is_blank (check_table cat tab))) (check_table cat tab) (lists_fault cat one two)

-- nothing is shown
abbrev pub nothing_shown : Status → Bytes → Reported
nothing_shown s out = reported (record { status = s; hits = 0 }) out

-- these cells are shown; AB where there is no room for all of them
unfoldable pub showing : List ℕ → Bytes → Reported
showing cells out =
    pick (ltb (length out) (2 * length cells)) (nothing_shown AB out)
    (reported (record { status = Blank; hits = length cells }) (over (hit_bytes cells) out))

-- the promise of each of the three
unfoldable pub report : Bytes → Bytes → Bytes → Bytes → Bytes → Reported
report cat tab one two out =
    pick (not (is_blank (report_refusal cat tab one two))) (nothing_shown (report_refusal cat tab one two) out)
    (showing (picked cat tab (one ++ two)) out)
