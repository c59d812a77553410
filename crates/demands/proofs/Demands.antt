-- The three demands hold of the promise. Assumes nothing.
use Rattle.rules.specs.Outcome.{outcome}
use Rattle.report_loops.proofs.Demand.{demand3}
use Rattle.demands.specs.Demand1.{Demand1}
use Rattle.demands.specs.Demand2.{Demand2}
use Rattle.demands.specs.Demand3.{Demand3}
use Rattle.demands.proofs.Demand1.{demand1}
use Rattle.demands.proofs.Demand2.{demand2}

-- THEOREM
pub demands : Demand1 outcome × Demand2 outcome × Demand3 outcome
demands = (demand1, demand2, demand3)
