use Rattle.cobol.proofs.Whole.{report-back}
use Rattle.cobol.proofs.fronts.reported.Goals as goal

pub returns : goal.returns
returns g c =
    report-back c.args.ask.now c.args.cat.now c.args.tab.now c.args.one.now c.args.two.now
    c.args.out.now c.cat_length-c.result c.tab_length-t.result c.list_length-l.result c.second_length-m.result
    c.out_length-o.result _ _ c.cat_length-c.ensures.0 c.tab_length-t.ensures.0 c.list_length-l.ensures.0
    c.second_length-m.ensures.0 c.out_length-o.ensures.0 (c.requires.reports _ _ _ _ _ _ _ c.report.ensures)
