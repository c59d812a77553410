use Rattle.cells.proofs.Ancestry.{sound-known}
use mathlib.Core.Path.{ap, ◌∙◌}
use Rattle.terms.specs.declared.Answer.{Answer}
use Rattle.blocks.proofs.Negated.{told-no, told-yes}
use Rattle.answers.specs.Ready.{made}
use Rattle.changes.proofs.Changed.{held-cell, replace-differs, replace-ready, replace-done}
use Rattle.changes.proofs.Told.{told-made}
use Rattle.changes.proofs.held.replace.Goals as goal

pub code_at-t-requires : goal.code_at-t-requires
code_at-t-requires c = (c.requires.0.sound.sized, held-cell c.requires.0 c.cell-c.ensures)

pub has_key-requires : goal.has_key-requires
has_key-requires c = (c.requires.0.sound, held-cell c.requires.0 c.cell-c.ensures, c.code_at-t.ensures, c.requires.1)

pub returns-then-not-has_key : goal.returns-then-not-has_key
returns-then-not-has_key c = ap (λ (r : Answer). made r c.args.tab.now c.args.area.now) c.bare.ensures ∙ replace-differs c.requires.0
    c.cell-c.ensures c.code_at-t.ensures c.args.area.now c.requires.1
    (told-no c.has_key.ensures c.if-not-has_key.true)

pub replace_cell_sound-requires : goal.replace_cell_sound-requires
replace_cell_sound-requires c =
    replace-ready c.requires.0 c.cell-c.ensures c.code_at-t.ensures c.args.area.now c.requires.1

pub told-requires : goal.told-requires
told-requires c = (
  c.requires.0.sound.catalogue,
  rw c.code_at-t.ensures
      (sound-known c.requires.0.sound _ (held-cell c.requires.0 c.cell-c.ensures)),
)

pub returns : goal.returns
returns c = told-made _ _ _ _ _ c.told.ensures c.hold_dropped.ensures c.replace_cell_sound.ensures ∙
    replace-done c.requires.0 c.cell-c.ensures c.code_at-t.ensures c.args.area.now c.requires.1
    (told-yes c.has_key.ensures c.if-not-has_key.false)
