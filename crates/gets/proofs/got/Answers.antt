use Rattle.cells.proofs.Ancestry.{sound-known}
use Rattle.gets.proofs.Gotten.{got-is}
use Rattle.gets.proofs.got.Goals as goal

pub told-requires : goal.told-requires
told-requires c = (c.requires.0.catalogue, rw c.show-t.ensures.0 (sound-known c.requires.0 c.args.c.0 c.requires.1))

pub returns : goal.returns
returns c = got-is c.args.cat.now c.args.tab.now c.args.c.0 c.args.s c.args.parentage c.args.hold
    c.args.area.now c.show-t.ensures.0 c.show-t.ensures.1 c.moved_onto.ensures c.told.ensures
