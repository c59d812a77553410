use Prim.Native.Nat.{◌+◌, ◌*◌, ◌-◌, ◌≤◌}
use Rattle.dbd_write.specs.Wrote.{Wrote}
use Rattle.dbd_write.proofs.Growing.{types_to}
use Rattle.dbd_write.proofs.whole.put_statements.Given as goal

abbrev pub invariant-loop-number : goal.invariant-loop-number
invariant-loop-number l =
    (l.number ≤ l.number-end + 1) × (l.next ≤ l.initial.next + 4160 * (l.number - 1))
    × Wrote l.initial.next (types_to l.cat l.names (l.number - 1)) l.initial.out l.next l.out
