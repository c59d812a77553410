use Rattle.umbristal.specs.Face.{sound_face}
use Rattle.cobol.proofs.Whole.{fronts-back}
use Rattle.cobol.proofs.fronts.called_sound.Goals as goal

pub returns : goal.returns
returns c =
    fronts-back sound_face c.args.ask.now c.args.cat.now c.args.tab.now c.args.pos.now c.args.list.now
    c.args.area.now c.cat_length-c.result c.tab_length-t.result c.list_length-l.result c.area_length-a.result _ _ _ _
    c.cat_length-c.ensures.0 c.tab_length-t.ensures.0 c.list_length-l.ensures.0 c.area_length-a.ensures.0
    c.umbristal_call_sound.ensures
