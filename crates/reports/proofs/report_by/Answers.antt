use mathlib.Core.Path.{ap, sym, ◌∙◌}
use Rattle.terms.specs.Statuses.{number}
use Rattle.terms.proofs.Verdict.{verdict-err}
use Rattle.std.proofs.lemmas.Result.{err_from_is_err_and}
use Rattle.reports.proofs.Whole.{whole-refused, whole-given, whole-shows}
use Rattle.reports.proofs.report_by.Goals as goal

pub returns-in_err-report_refusal : goal.returns-in_err-report_refusal
returns-in_err-report_refusal g c =
    let p = err_from_is_err_and c.from_residual.result c.from_residual.ensures.1 in
    let e = sym c.report_refusal.ensures ∙ c.in_err-report_refusal.was in
    let told = verdict-err _ e in
    rw (p.1, p.2) (record { told = whole-refused _ _ _ _ _ e; refused = λ z. told.0 (ap number (sym told.1) ∙ z) })

pub shown_by-requires-clause-given : goal.shown_by-requires-clause-given
shown_by-requires-clause-given g c = whole-given _ _ _ _ (sym c.report_refusal.ensures ∙ c.in_ok-report_refusal.was)

pub returns : goal.returns
returns g c = record {
  told = c.shown_by.ensures.told ∙ whole-shows _ _ _ _ (sym c.report_refusal.ensures ∙ c.in_ok-report_refusal.was) _;
  refused = c.shown_by.ensures.refused;
}
