use Rattle.std.proofs.Common.{◌-◌}
use Rattle.catalogue.specs.Levels.{Levels}
use Rattle.catalogue.proofs.lineage.levels_to.Given as goal

abbrev pub invariant-loop-k : goal.invariant-loop-k
invariant-loop-k l = Levels l.cat l.row (l.k - 1)
