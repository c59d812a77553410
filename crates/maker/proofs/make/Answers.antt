use mathlib.Core.Path.{ap}
use Prim.Native.Nat.{ℕ, ◌+◌}
use native.Mathlib.Omega.{arith}
use Rattle.rules.specs.Table.{cell_size}
use Rattle.catalogue.proofs.Hierarchy.{largest-most}
use Rattle.blocks.proofs.Negated.{told-no, told-yes}
use Rattle.table_check.proofs.Space.{room-is}
use Rattle.maker.proofs.Made.{made-refused, made-unfit, made-done}
use Rattle.maker.proofs.make.Goals as goal

pub returns-then-not-is_good : goal.returns-then-not-is_good
unfolding cell_size
returns-then-not-is_good c = made-refused c.args.cat.now c.args.tab.now (told-no c.is_good.ensures c.if-not-is_good.true)

pub returns-then-not-good_room : goal.returns-then-not-good_room
unfolding cell_size
returns-then-not-good_room c = made-unfit c.args.cat.now c.args.tab.now (told-yes c.is_good.ensures c.if-not-is_good.false)
    (told-no c.good_room.ensures c.if-not-good_room.true)

pub overflow_add-largest : goal.overflow_add-largest
unfolding cell_size
overflow_add-largest c = omega (
  arith,
  c.largest.ensures,
  largest-most c.args.cat.now
      (told-yes c.is_good.ensures
      c.if-not-is_good.false),
)

pub write_empty-requires : goal.write_empty-requires
unfolding cell_size
write_empty-requires c =
    (room-is c.args.cat.now c.args.tab.now (told-yes c.good_room.ensures c.if-not-good_room.false)).0

pub returns : goal.returns
unfolding cell_size
returns c =
    made-done c.args.cat.now c.args.tab.now (1 + c.largest.result) c.write_empty.new.tab
    (ap (λ (n : ℕ). 1 + n) c.largest.ensures) c.write_empty.ensures (told-yes c.is_good.ensures c.if-not-is_good.false)
    (told-yes c.good_room.ensures c.if-not-good_room.false)
