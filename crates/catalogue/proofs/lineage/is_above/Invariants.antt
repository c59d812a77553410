use Rattle.std.proofs.Common.{◌≡◌, ◌-◌}
use Rattle.forest.specs.Numbers.{is_in}
use Rattle.catalogue.proofs.Climbing.{climbed}
use Rattle.catalogue.proofs.lineage.is_above.Given as goal

abbrev pub invariant-loop : goal.invariant-loop
invariant-loop l = is_in l.x.0 (climbed l.cat (l.end - l.counter) l.u.0) ≡ is_in l.x.0 (climbed l.cat l.fn.t.0 l.fn.t.0)
