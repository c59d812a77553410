-- A report as C takes it: one number, and the bytes lent for the cells. Assumes nothing.
use mathlib.Core.Path.{◌≡◌, ap, ◌∙◌}
use Prim.Native.Nat.{ℕ, ◌<◌}
use native.Mathlib.Omega.{arith}
use Rattle.rules.specs.Block.{Bytes}
use Rattle.reports.specs.Report.{Report}
use Rattle.reports.specs.Report.{Reported, reported, report}
use Rattle.reports.proofs.Whole.{report-few}
use Rattle.umbristal.specs.Face.{packed_report, reported_back, report_face}

module _ (cat tab one two out : Bytes) (r : Report) (next : Bytes) (e : reported r next ≡ report cat tab one two out) where
  pub report-small : r.hits < 65536
  report-small = omega (arith, ap (λ (x : Reported). x.answer.hits) e, report-few cat tab one two out)

  pub report-shown : (p : ℕ) → p ≡ packed_report r → reported_back p next ≡ report_face cat tab one two out
  unfolding report_face
  report-shown p q = ap (λ (n : ℕ). reported_back n next) q ∙ ap (λ (x : Reported). reported_back (packed_report x.answer) x.out) e
