use Rattle.rules.specs.Catalogue.{level}
use Rattle.cells.proofs.Ancestry.{sound-known}
use mathlib.Core.Path.{ap, ◌∙◌}
use Rattle.rules.specs.Cells.{level_at}
use Rattle.cells.proofs.lookup.level_at.Goals as goal

pub level_by-requires : goal.level_by-requires
level_by-requires c = (c.requires.0.catalogue, rw c.code_at.ensures (sound-known c.requires.0 c.args.c.0 c.requires.1), c.requires.2)

pub returns : goal.returns
unfolding level_at
returns c = c.level_by.ensures ∙ ap (level c.args.cat.now) c.code_at.ensures
