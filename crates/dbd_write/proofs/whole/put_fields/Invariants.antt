use Prim.Native.Nat.{◌+◌, ◌*◌, ◌-◌, ◌≤◌}
use Rattle.dbd_write.specs.Wrote.{Wrote}
use Rattle.dbd_write.proofs.Growing.{fields_to}
use Rattle.dbd_write.proofs.whole.put_fields.Given as goal

abbrev pub invariant-loop-number : goal.invariant-loop-number
invariant-loop-number l =
    (l.number ≤ l.number-end + 1) × (l.next ≤ l.at + 64 * (l.number - 1))
    × Wrote l.at (fields_to l.cat l.names l.t (l.number - 1)) l.initial.out l.next l.out
