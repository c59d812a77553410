use Rattle.std.proofs.Common.{◌≡◌, drop}
use Rattle.rules.specs.Order.{order}
use Rattle.blocks.proofs.slices.order_of.Given as goal

abbrev pub invariant-loop-i : goal.invariant-loop-i
invariant-loop-i l = order (drop l.i l.a) (drop l.i l.b) ≡ order l.a l.b
