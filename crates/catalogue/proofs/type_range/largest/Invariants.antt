use Rattle.std.proofs.Common.{◌≡◌, ◌-◌, ◌+◌, ◌≤◌}
use Rattle.rules.specs.Catalogue.{largest}
use Rattle.catalogue.proofs.type_range.largest.Given as goal

abbrev pub invariant-loop-k : goal.invariant-loop-k
invariant-loop-k l = (l.k ≤ l.k-end + 1) × (l.most ≡ largest l.cat (l.k - 1))
