-- The stores of specs/WrongStores.antt meet no demand: each is refuted on the bench table. And no second store meets demand 2. Assumes nothing.
use Rattle.std.specs.Prelude.{Some}
use mathlib.Core.Path.{◌≡◌, refl, ap, sym, ◌∙◌}
use mathlib.Core.Bool.{Bool, true, false}
use mathlib.Core.List.{[], ◌∷◌}
use Prim.Native.Nat.{ℕ, zero, suc, ◌<◌}
use native.Mathlib.Omega.{arith}
use lib.Dec.{ltb}
use lib.ListN.{length}
use borrow.Author.Tests.{ltb-true}
use Rattle.terms.specs.declared.Place.TheVariants.{On}
use Rattle.terms.specs.declared.Position.{Position}
use Rattle.terms.specs.Names.{cell}
use Rattle.terms.specs.Statuses.{number}
use Rattle.terms.specs.Moves.{fresh, place_number}
use Rattle.forest.specs.Good.{on, off, is}
use Rattle.rules.specs.Block.{Bytes, byte, every}
use Rattle.rules.specs.Computed.{computed}
use Rattle.rules.specs.Cases.Bench.{catalogue, table, on_cell}
use Rattle.rules.specs.Outcome.{Store}
use Rattle.encoding.specs.Determined.{IsBytes}
use Rattle.report_loops.specs.Loops.{loop}
use Rattle.report_loops.proofs.Wrong.{once}
use Rattle.demands.specs.StatusTable.{first_given}
use Rattle.demands.specs.Demand1.{Demand1}
use Rattle.demands.specs.Demand2.{Demand2}
use Rattle.demands.specs.StartsOver.{StartsOver}
use Rattle.demands.specs.WrongStores.{refuses_all, always_first, leaves_table, stays_at_end, invents_removed, invents_count}

-- LAW: two outcomes that meet demand 2 for the same input are equal
pub one-outcome : (store other : Store) → Demand2 store → Demand2 other → (cat tab : Bytes) (pos : Position) (c : ℕ) (list lent : Bytes)
    → store cat tab pos c list lent ≡ other cat tab pos c list lent
one-outcome store other d e cat tab pos c list lent = sym (d.model cat tab pos c list lent) ∙ e.model cat tab pos c list lent

are-bytes : (b : Bytes) → every (λ x. ltb x 256) b ≡ true → IsBytes b
unfolding every
are-bytes [] e i = omega arith
are-bytes (x ∷ xs) e i = elim (is (ltb x 256)) [
  | on h ↦ go i (ltb-true x 256 h) (λ j. are-bytes xs (rw (every, h) at e) j)
  | off h ↦ absurd (let z : ◌≡◌ {A = Bool} false true = rw (every, h) at e in let y : ◌≡◌ {A = ℕ} 0 1 = cc in omega arith)
]
  where
    go : (i : ℕ) → x < 256 → IsBytes xs → byte (x ∷ xs) i < 256
    go zero h f = h
    go (suc i) h f = f i

-- an area of C - 1 bytes
abbrev area : Bytes
area = 0 ∷ 0 ∷ 0 ∷ []

table-bytes : IsBytes table
unfolding computed table
table-bytes = are-bytes table refl

area-bytes : IsBytes area
unfolding computed
area-bytes = are-bytes area refl

-- GN on the bench table is done, and is not refused
pub not-refuses-all : Demand1 refuses_all → ⊥
unfolding computed catalogue table first_given refuses_all
not-refuses-all d = let z : ◌≡◌ {A = ℕ} 20 0 = ap number (d.answers catalogue table fresh 2 [] area).order in omega arith

-- after cell 0 comes cell 1
pub not-always-first : Demand2 always_first → ⊥
unfolding computed catalogue table always_first
not-always-first d = let z : ◌≡◌ {A = ℕ} 0 1 = ap (λ (p : Position). place_number p.place) (d.stands catalogue table (on_cell 0) 2 [] area) in omega arith

-- an ISRT that is done makes 10 of 9 cells
pub not-leaves-table : Demand2 leaves_table → ⊥
unfolding computed catalogue table leaves_table
not-leaves-table d =
    let z : ◌≡◌ {A = ℕ} 9 10 = (d.stays catalogue table fresh 7 (1 ∷ 0 ∷ []) area refl table-bytes area-bytes refl refl).counted in
    omega arith

-- behind cell 0 there is a match
pub not-once : Demand1 once → ⊥
unfolding computed catalogue table first_given once
not-once d = let z : ◌≡◌ {A = ℕ} 11 0 = ap number (d.answers catalogue table (on_cell 0) 2 [] area).order in omega arith

-- behind the last cell GN answers GB, and the place is the start; from there it shows nine cells more
pub not-stays-at-end : Demand1 stays_at_end → ⊥
unfolding computed catalogue table stays_at_end
not-stays-at-end d =
    let z : ◌≡◌ {A = ℕ} 8 0 = ap (λ (p : Position). place_number p.place) ((d.answers catalogue table (on_cell 8) 2 [] area).over refl).position in
    omega arith

pub never-over : StartsOver stays_at_end → ⊥
unfolding computed catalogue table stays_at_end loop
never-over d = let z : ◌≡◌ {A = ℕ} 0 9 = ap length (d catalogue table (on_cell 8) 2 [] area refl).shows in omega arith

-- on cell 3, with a hold: its run has three cells
abbrev held_step : Position
held_step = record { place = On (cell 3); parentage = Some (cell 3); hold = true }

pub not-invents-removed : Demand2 invents_removed → ⊥
unfolding computed catalogue table invents_removed
not-invents-removed d = let z : ◌≡◌ {A = ℕ} 4 3 = (d.tells catalogue table held_step 9 [] []).removed in omega arith

-- a get leaves the count as it was
pub not-invents-count : Demand2 invents_count → ⊥
unfolding computed catalogue table invents_count
not-invents-count d =
    let z : ◌≡◌ {A = ℕ} 10 9 = (d.stays catalogue table fresh 2 [] area refl table-bytes area-bytes refl refl).counted in
    omega arith
