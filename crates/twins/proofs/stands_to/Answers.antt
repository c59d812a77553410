use Rattle.cells.proofs.Ancestry.{sound-known}
use mathlib.Core.Path.{◌∙◌}
use Rattle.twins.proofs.Passing.{new_deep, new-less, new-more, new-twin}
use Rattle.twins.proofs.stands_to.Goals as goal

pub returns-then-u-t : goal.returns-then-u-t
returns-then-u-t c = new-more _ _ _ _ c.code_at-u.ensures c.if-u-t.true

pub returns-then-u-t-2 : goal.returns-then-u-t-2
returns-then-u-t-2 c = c.key_order_with.ensures ∙ new-twin _ _ _ _ c.code_at-u.ensures c.if-u-t-2.true

pub level_by-requires-2 : goal.level_by-requires-2
level_by-requires-2 c =
    (c.requires.0.sound.catalogue, rw c.code_at-u.ensures (sound-known c.requires.0.sound c.args.c.0 c.requires.2), c.requires.3)

pub returns-then-level_by : goal.returns-then-level_by
returns-then-level_by c = new_deep _ _ _ _ c.code_at-u.ensures c.if-u-t.false c.if-u-t-2.false c.level_by.ensures c.level_by-2.ensures
    c.if-level_by.true

pub returns : goal.returns
returns c = new-less _ _ _ _ c.code_at-u.ensures c.if-u-t.false c.if-u-t-2.false c.level_by.ensures c.level_by-2.ensures
    c.if-level_by.false
