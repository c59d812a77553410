-- Stores that do not meet demand 3, each refuted on the bench table: one that gets one segment and from then on answers GE, one whose GNP goes on
-- beneath the next parent. Assumes nothing.
use Rattle.terms.specs.Names.{Parentage}
use mathlib.Core.Path.{◌≡◌, refl, ap}
use mathlib.Core.Bool.{true, false}
use mathlib.Core.List.{[], ◌∷◌, ◌++◌}
use Prim.Native.Nat.{ℕ}
use native.Mathlib.Omega.{arith}
use lib.Dec.{eqb}
use lib.ListN.{length}
use Rattle.terms.specs.declared.Place.TheVariants.{On, Before}
use Rattle.terms.specs.declared.Status.TheVariants.{GE}
use Rattle.rules.specs.Block.{Bytes}
use Rattle.rules.specs.Calls.{missed}
use Rattle.rules.specs.Outcome.{Outcome, Store, landed, outcome}
use Rattle.rules.specs.Computed.{computed}
use Rattle.rules.specs.Cases.Bench.{catalogue, table}
use Rattle.report_loops.specs.Loops.{loop, nested_loop}
use Rattle.report_loops.specs.Plain.{filter, picked}
use Rattle.report_loops.specs.Demand3.{Accepted, Cut, Demand3}

-- on a cell it answers GE, whatever the call
unfoldable pub once : Store
once cat tab pos c list lent = elim pos.place [
  | Before i ↦ outcome cat tab pos c list lent
  | On i ↦ landed cat tab (missed GE pos lent)
]

-- its GNP seeks as GN does, to the last cell, and leaves the parentage as it was
abbrev with_parentage : Parentage → Outcome → Outcome
with_parentage p o = record {
  answer = record {
    status = o.answer.status;
    position = record { place = o.answer.position.place; parentage = p; hold = o.answer.position.hold };
    code = o.answer.code;
    level = o.answer.level;
    length = o.answer.length;
    removed = o.answer.removed;
  };
  table = o.table;
  area = o.area;
}

unfoldable pub runs_on : Store
runs_on cat tab pos c list lent = elim (eqb c 3) [
  | true ↦ with_parentage pos.parentage (outcome cat tab pos 2 list lent)
  | false ↦ outcome cat tab pos c list lent
]

-- the unit "07", and the steps
abbrev unit07 : Bytes
unit07 = 1 ∷ 1 ∷ 1 ∷ 0x30 ∷ 0x37 ∷ []

abbrev steps : Bytes
steps = 2 ∷ 0 ∷ []

abbrev area : Bytes
area = 0 ∷ 0 ∷ 0 ∷ []

accepted : Accepted catalogue table (unit07 ++ steps) area
unfolding computed catalogue table
accepted = record { catalogue = refl; table = refl; read = refl; long = omega arith }

cut : Cut catalogue unit07 steps
unfolding computed catalogue table
cut = record { first = omega arith; second = omega arith; between = refl }

-- it shows one cell of two
pub not-once : Demand3 once → ⊥
unfolding computed catalogue table loop filter picked once
not-once d = let z : ◌≡◌ {A = ℕ} 1 2 = ap length (d.agree catalogue table unit07 steps area accepted cut 10 (omega arith)).1.shows in omega arith

-- it shows three cells, the next unit's step too
pub not-runs-on : Demand3 runs_on → ⊥
unfolding computed catalogue table loop nested_loop filter picked runs_on
not-runs-on d = let z : ◌≡◌ {A = ℕ} 3 2 = ap length (d.agree catalogue table unit07 steps area accepted cut 10 (omega arith)).0.shows in omega arith
