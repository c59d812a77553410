use Rattle.changes.proofs.Spots.{put-done}
use Rattle.changes.proofs.Told.{told-made}
use mathlib.Core.Path.{◌∙◌}
use Rattle.changes.proofs.insert.put_sound.Goals as goal

pub returns : goal.returns
returns c = told-made _ _ _ _ _ c.told.ensures c.after_insert.ensures c.insert_cell_sound.ensures ∙ put-done
    c.args.cat.now c.args.tab.now c.args.pos c.args.area.now c.args.t c.args.at.0 c.args.beneath
