use mathlib.Core.Path.{ap}
use Prim.Native.Nat.{ℕ, ◌-◌, ◌/◌}
use native.Mathlib.Omega.{arith}
use lib.ListN.{length}
use Rattle.rules.specs.Table.{cell_size, room}
use Rattle.table_check.proofs.Space.{room-none}
use Rattle.table_check.proofs.room.room.Goals as goal

pub nonzero_div-result : goal.nonzero_div-result
unfolding cell_size
nonzero_div-result c = omega (arith, c.cell_size.ensures.0)

pub returns-then-tab-lt8 : goal.returns-then-tab-lt8
returns-then-tab-lt8 c = room-none c.args.cat.now c.args.tab.now c.if-tab-lt8.true

pub returns-else-tab-lt8 : goal.returns-else-tab-lt8
unfolding room
returns-else-tab-lt8 c = ap (λ (n : ℕ). (length c.args.tab.now - 8) / n) c.cell_size.ensures.0
