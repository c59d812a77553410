use Rattle.cobol.proofs.Whole.{report-told}
use Rattle.cobol.proofs.umbristal_cobol_report_joined.Goals as goal

pub returns : goal.returns
returns c = report-told _ _ _ _ c.tell.ensures c.reported-r.ensures
