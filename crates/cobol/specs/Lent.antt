-- What a caller finds who lends every block by reference: in each the front that was asked for is as the function of `umbristal` leaves it, and the bytes
-- behind that front stay. Assumes nothing: these are definitions.
use Rattle.std.specs.Prelude.{◌≡◌, ◌++◌, ℕ, ◌+◌, ◌*◌, ◌≤◌, min, length, take, drop}
use denote.Ref.{Bor, MutBor}
use Rattle.terms.specs.Statuses.{number}
use Rattle.rules.specs.Block.{Bytes, byte}
use Rattle.rules.specs.Outcome.{check_table, make_status, made_table}
use Rattle.parts.specs.Result.{told_of}
use Rattle.umbristal.specs.Face.{HandedBack, handed_back, ReportedBack, reported_back, report_face}
use Rattle.umbristal.specs.Session.{Face}

-- the number of four bytes at byte i, high byte first; as a length it counts at most as much as the block has
abbrev pub written : Bytes → ℕ → ℕ
written ask i = 16777216 * byte ask i + 65536 * byte ask (i + 1) + 256 * byte ask (i + 2) + byte ask (i + 3)

unfoldable pub length_at : Bytes → ℕ → ℕ → ℕ
length_at ask i most = min (written ask i) most

-- the lengths of what is lent; catalogue, table and lists have a byte more than any that is right, so that a length which is too great shows
abbrev pub cat_length : Bytes → ℕ
cat_length ask = length_at ask 1 521

abbrev pub tab_length : Bytes → ℕ
tab_length ask = length_at ask 5 495625

abbrev pub list_length : Bytes → ℕ
list_length ask = length_at ask 9 1846

abbrev pub second_length : Bytes → ℕ
second_length ask = length_at ask 13 1846

abbrev pub area_length : Bytes → ℕ
area_length ask = length_at ask 17 120

abbrev pub out_length : Bytes → ℕ
out_length ask = length_at ask 17 8192

-- blocks that have these sizes, or more
pub record Sizes (cat tab list area : Bytes) : Type 0 where
  pub cat-long : 521 ≤ length cat
  pub tab-long : 495625 ≤ length tab
  pub list-long : 1846 ≤ length list
  pub area-long : 120 ≤ length area

-- what a call leaves of whole blocks, where `f` is what it leaves of their fronts
unfoldable pub handed_whole : Face → Bytes → Bytes → Bytes → Bytes → Bytes → Bytes → HandedBack
handed_whole f ask cat tab block list area =
    let h = f (take (cat_length ask) cat) (take (tab_length ask) tab) block (byte ask 0) (take (list_length ask) list) (take (area_length ask) area) in
    handed_back h.result (h.table ++ drop (tab_length ask) tab) h.block (h.area ++ drop (area_length ask) area)

-- the same with the result told
pub record CallLeft : Type 0 where
  pub told : Bytes
  pub table : Bytes
  pub block : Bytes
  pub area : Bytes

abbrev pub call_left : Bytes → Bytes → Bytes → Bytes → CallLeft
call_left told table block area = record { told = told; table = table; block = block; area = area }

unfoldable pub told_call : HandedBack → CallLeft
told_call h = call_left (told_of h.result) h.table h.block h.area

-- of a report likewise
unfoldable pub reported_whole : Bytes → Bytes → Bytes → Bytes → Bytes → Bytes → ReportedBack
reported_whole ask cat tab one two out =
    let h =
    report_face (take (cat_length ask) cat) (take (tab_length ask) tab) (take (list_length ask) one) (take (second_length ask) two)
    (take (out_length ask) out) in
    reported_back h.result (h.out ++ drop (out_length ask) out)

-- a function that leaves what a report leaves
abbrev pub Reports : (Bor Bytes → Bor Bytes → Bor Bytes → Bor Bytes → MutBor Bytes → ℕ → MutBor Bytes → Type 0) → Type 0
Reports post =
    (cat tab one two : Bor Bytes) (out : MutBor Bytes) (r : ℕ) (after : MutBor Bytes) → post cat tab one two out r after
    → reported_back r after.now ≡ report_face cat.now tab.now one.now two.now out.now

pub record ReportSizes (cat tab one two out : Bytes) : Type 0 where
  pub cat-long : 521 ≤ length cat
  pub tab-long : 495625 ≤ length tab
  pub one-long : 1846 ≤ length one
  pub two-long : 1846 ≤ length two
  pub out-long : 8192 ≤ length out

pub record ReportLeft : Type 0 where
  pub told : Bytes
  pub out : Bytes

abbrev pub report_left : Bytes → Bytes → ReportLeft
report_left told out = record { told = told; out = out }

unfoldable pub told_report : ReportedBack → ReportLeft
told_report h = report_left (told_of h.result) h.out

-- the status of the check, and that of the maker with what it leaves of the table
unfoldable pub checked_whole : Bytes → Bytes → Bytes → ℕ
checked_whole ask cat tab = number (check_table (take (cat_length ask) cat) (take (tab_length ask) tab))

unfoldable pub make_whole : Bytes → Bytes → Bytes → ℕ
make_whole ask cat tab = number (make_status (take (cat_length ask) cat) (take (tab_length ask) tab))

unfoldable pub made_whole : Bytes → Bytes → Bytes → Bytes
made_whole ask cat tab = made_table (take (cat_length ask) cat) (take (tab_length ask) tab) ++ drop (tab_length ask) tab
