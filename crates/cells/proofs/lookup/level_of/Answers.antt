use mathlib.Core.Path.{ap, ◌∙◌}
use Rattle.rules.specs.Catalogue.{level}
use Rattle.rules.specs.Cells.{level_at}
use Rattle.cells.proofs.Ancestry.{sound-known}
use Rattle.cells.proofs.lookup.level_of.Goals as goal

pub level-requires : goal.level-requires
level-requires c = (c.requires.0.catalogue, rw c.code_at.ensures (sound-known c.requires.0 c.args.c.0 c.requires.1))

pub returns : goal.returns
unfolding level_at
returns c = c.level.ensures ∙ ap (level c.args.cat.now) c.code_at.ensures
