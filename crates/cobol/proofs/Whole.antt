-- The front of a block that was lent and is back, said of the whole block: once for the calls and once for the reports. Assumes nothing.
use mathlib.Core.Path.{◌≡◌, ap, ◌∙◌}
use mathlib.Core.List.{◌++◌}
use Prim.Native.Nat.{ℕ}
use native.Mathlib.Nat.{min-eq_left}
use lib.ListN.{take, drop}
use Rattle.rules.specs.Block.{Bytes, byte}
use Rattle.terms.specs.Statuses.{number}
use Rattle.rules.specs.Outcome.{check_table, make_status, made_table}
use Rattle.parts.specs.Result.{told_of}
use Rattle.umbristal.specs.Face.{HandedBack, handed_back, ReportedBack, reported_back, report_face}
use Rattle.umbristal.specs.Session.{Face}
use Rattle.cobol.specs.Lent.{length_at, cat_length, tab_length, list_length, second_length, area_length, out_length}
use Rattle.cobol.specs.Lent.{handed_whole, call_left, told_call, reported_whole, report_left, told_report, checked_whole, make_whole, made_whole}
use Rattle.cobol.specs.Told.{CountsAsWritten}

-- a length that fits the block counts as it stands, and a greater one as the block's size
pub as_written : CountsAsWritten
unfolding length_at
as_written ask i most l = min-eq_left l

-- what the call f leaves of the fronts, with what lies behind them
module _ (f : Face) (ask cat tab block list area : Bytes) where
  pub fronts-back : (c t l a r : ℕ) (tab' block' area' : Bytes)
      → c ≡ cat_length ask → t ≡ tab_length ask → l ≡ list_length ask → a ≡ area_length ask
      → handed_back r tab' block' area' ≡ f (take c cat) (take t tab) block (byte ask 0) (take l list) (take a area)
      → handed_back r (tab' ++ drop t tab) block' (area' ++ drop a area) ≡ handed_whole f ask cat tab block list area
  unfolding handed_whole
  fronts-back c t l a r tab' block' area' p q s u e =
      ap (λ (h : HandedBack). handed_back h.result (h.table ++ drop t tab) h.block (h.area ++ drop a area)) e ∙ rw (p, q, s, u)

-- of a report likewise
module _ (ask cat tab one two out : Bytes) where
  pub report-back : (c t l m o r : ℕ) (out' : Bytes)
      → c ≡ cat_length ask → t ≡ tab_length ask → l ≡ list_length ask → m ≡ second_length ask → o ≡ out_length ask
      → reported_back r out' ≡ report_face (take c cat) (take t tab) (take l one) (take m two) (take o out)
      → reported_back r (out' ++ drop o out) ≡ reported_whole ask cat tab one two out
  unfolding reported_whole
  report-back c t l m o r out' p q s u v e =
      ap (λ (h : ReportedBack). reported_back h.result (h.out ++ drop o out)) e ∙ rw (p, q, s, u, v)

-- of the check and of the maker
module _ (ask cat tab : Bytes) (c t r : ℕ) (p : c ≡ cat_length ask) (q : t ≡ tab_length ask) where
  pub checked-back : r ≡ number (check_table (take c cat) (take t tab)) → r ≡ checked_whole ask cat tab
  unfolding checked_whole
  checked-back e = e ∙ rw (p, q)

  pub made-back : (tab' : Bytes) → (r ≡ number (make_status (take c cat) (take t tab))) × (tab' ≡ made_table (take c cat) (take t tab))
      → (r ≡ make_whole ask cat tab) × (tab' ++ drop t tab ≡ made_whole ask cat tab)
  unfolding make_whole made_whole
  made-back tab' e = (e.0 ∙ rw (p, q), ap (λ (b : Bytes). b ++ drop t tab) e.1 ∙ rw (p, q))

-- and with the result told
pub call-told : (h : HandedBack) (r : ℕ) (told tab block area : Bytes) → told ≡ told_of r → handed_back r tab block area ≡ h
    → call_left told tab block area ≡ told_call h
unfolding told_call
call-told h r told tab block area s e = ap (λ (b : Bytes). call_left b tab block area) s ∙ ap told_call e

pub report-told : (h : ReportedBack) (r : ℕ) (told out : Bytes) → told ≡ told_of r → reported_back r out ≡ h → report_left told out ≡ told_report h
unfolding told_report
report-told h r told out s e = ap (λ (b : Bytes). report_left b out) s ∙ ap told_report e
