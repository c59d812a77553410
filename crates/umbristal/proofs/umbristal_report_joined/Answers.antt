use Rattle.umbristal.proofs.Reports.{report-small, report-shown}
use Rattle.umbristal.proofs.umbristal_report_joined.Goals as goal

pub packed_report-requires : goal.packed_report-requires
packed_report-requires c = report-small _ _ _ _ _ _ _ c.joined.ensures.told

pub returns : goal.returns
returns c = report-shown _ _ _ _ _ _ _ c.joined.ensures.told _ c.packed_report.ensures
