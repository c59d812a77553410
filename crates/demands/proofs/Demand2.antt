-- The promise meets demand 2. Assumes nothing.
use Rattle.rules.specs.Block.{Bytes}
use Rattle.rules.specs.Outcome.{outcome_of, outcome}
use Rattle.terms.specs.declared.Position.{Position}
use Prim.Native.Nat.{ℕ}
use Rattle.encoding.proofs.Determined.{table-forest, forest-table}
use Rattle.model.proofs.Model.{model-is-cells}
use Rattle.model.proofs.Kept.{tables-stay-good}
use Rattle.model.proofs.Session.{checked-once}
use Rattle.demands.specs.Demand2.{Stands, Tells, Demand2}
use Rattle.demands.proofs.Results.{says-outcome}
use Rattle.demands.proofs.Stands.{stood-outcome}

outcome-tells : (cat tab : Bytes) (pos : Position) (c : ℕ) (list area : Bytes) → Tells cat tab pos c list area (outcome cat tab pos c list area)
unfolding outcome outcome_of
outcome-tells cat tab pos c list area = (says-outcome cat tab pos list area c).tells

outcome-stands : (cat tab : Bytes) (pos : Position) (c : ℕ) (list area : Bytes) → Stands cat tab pos c list area (outcome cat tab pos c list area)
unfolding outcome outcome_of
outcome-stands cat tab pos c list area = stood-outcome cat tab pos list area c

-- THEOREM
pub demand2 : Demand2 outcome
demand2 = record {
  table_to_forest = table-forest;
  forest_to_table = forest-table;
  model = model-is-cells;
  stays = tables-stay-good;
  once = checked-once;
  stands = outcome-stands;
  tells = outcome-tells;
}
