use Rattle.cobol.proofs.Whole.{checked-back}
use Rattle.cobol.proofs.fronts.checked.Goals as goal

pub returns : goal.returns
returns c = checked-back c.args.ask.now c.args.cat.now c.args.tab.now c.cat_length-c.result c.tab_length-t.result _
    c.cat_length-c.ensures.0 c.tab_length-t.ensures.0 c.umbristal_table_check.ensures
