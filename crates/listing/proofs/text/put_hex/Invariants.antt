use mathlib.Core.Path.{◌≡◌}
use Prim.Native.Nat.{◌+◌, ◌*◌}
use lib.ListN.{take}
use Rattle.rules.specs.Listing.{hex}
use Rattle.listing.specs.Written.{Wrote}
use Rattle.listing.proofs.text.put_hex.Given as goal

abbrev pub invariant-loop-b : goal.invariant-loop-b
invariant-loop-b l = (l.next ≡ l.at + 2 * l.b-index) × Wrote l.at (hex (take l.b-index l.from)) l.initial.out l.next l.out
