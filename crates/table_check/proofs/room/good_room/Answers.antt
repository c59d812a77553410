use native.Mathlib.Omega.{arith}
use Rattle.std.proofs.lemmas.Grind.{common_steps}
use Rattle.table_check.proofs.Space.{room_fits, room-tests}
use Rattle.table_check.proofs.room.good_room.Goals as goal

pub overflow_mul-m : goal.overflow_mul-m
overflow_mul-m c = omega (arith, room_fits c.args.cat.now c.args.tab.now _ _ c.room-m.ensures c.cell_size.ensures.0)

pub overflow_add-m : goal.overflow_add-m
overflow_add-m c = omega (arith, room_fits c.args.cat.now c.args.tab.now _ _ c.room-m.ensures c.cell_size.ensures.0)

pub returns-then-tab-m : goal.returns-then-tab-m
returns-then-tab-m c = let e = room-tests c.args.cat.now c.args.tab.now in grind (arith, common_steps)

pub returns-else-tab-m : goal.returns-else-tab-m
returns-else-tab-m c = let e = room-tests c.args.cat.now c.args.tab.now in grind (arith, common_steps)
