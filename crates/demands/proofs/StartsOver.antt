-- A store that meets demands 1 and 3 starts over after GB: demand 1 says that nothing was refused and that the position is fresh, demand 3 what a loop from
-- there shows. Assumes nothing.
use mathlib.Core.Path.{◌≡◌, refl, ap, sym, ◌∙◌}
use mathlib.Core.Bool.{true, false}
use mathlib.Core.List.{List, [], ◌∷◌}
use Prim.Native.Nat.{ℕ, suc, ◌-◌}
use native.Mathlib.Omega.{arith}
use lib.Dec.{ltb, eqb}
use lib.ListN.{length}
use borrow.Author.Tests.{eqb-true, ltb-false}
use Rattle.terms.specs.declared.Position.{Position}
use Rattle.terms.specs.declared.Status.TheVariants.{GB}
use Rattle.terms.specs.Statuses.{number}
use Rattle.forest.specs.Good.{on, off, is, both_left}
use Rattle.forest.specs.Numbers.{range}
use Rattle.rules.specs.Block.{Bytes}
use Rattle.rules.specs.Cells.{Segment}
use Rattle.rules.specs.Table.{count, cell_size, listing}
use Rattle.rules.specs.Arguments.{ListRead}
use Rattle.rules.specs.Outcome.{Outcome, Store, outcome}
use Rattle.model.proofs.Asked.{not-true}
use Rattle.arguments.proofs.Sound.{list-empty}
use Rattle.report_loops.specs.Loops.{start, handed_on}
use Rattle.report_loops.specs.Plain.{filter, meets, picked}
use Rattle.report_loops.specs.Demand3.{Accepted}
use Rattle.report_loops.proofs.Demand.{demand3}
use Rattle.demands.specs.StatusTable.{Row, first_given, next, dlet, status_table}
use Rattle.demands.specs.Demand1.{Untouched, Demand1}
use Rattle.demands.specs.Demand3.{Demand3}
use Rattle.demands.specs.StartsOver.{StartsOver}
use Rattle.demands.proofs.Demand1.{demand1}

-- a row before that of GB was not given
module _ (r : Row) (rs : List Row) (other : number r.status ≡ 10 → ⊥) where
  not-given : first_given (r ∷ rs) ≡ GB → (r.given ≡ false) × (first_given rs ≡ GB)
  unfolding first_given
  not-given e = elim (is r.given) [
    | on h ↦ absurd (other (ap number (rw (first_given, h) at e)))
    | off h ↦ (h, rw (first_given, h) at e)
  ]

-- nothing is tested with the empty list
all_meet : (cat list : Bytes) (cs : List Segment) (xs : List ℕ) → filter (meets cat list cs []) xs ≡ xs
unfolding filter
all_meet cat list cs [] = refl
all_meet cat list cs (x ∷ xs) = ap (◌∷◌ x) (all_meet cat list cs xs)

all-picked : (cat tab : Bytes) → picked cat tab [] ≡ range 0 (count tab)
unfolding picked
all-picked cat tab =
    ap (λ (r : ListRead). filter (meets cat [] (listing cat tab) r.arguments) (range 0 (count tab))) (list-empty cat [] refl)
    ∙ all_meet cat [] (listing cat tab) (range 0 (count tab))

-- GN and GHN are no DLET
next-is : (c : ℕ) → next c ≡ true → dlet c ≡ false
next-is c e = elim (is (eqb c 2)) [
  | on h ↦ (let z : c ≡ 2 = eqb-true c 2 h in rw z)
  | off h ↦ (let z : c ≡ 5 = eqb-true c 5 (rw h at e) in rw z)
]

module _ (cat tab : Bytes) (pos : Position) (c : ℕ) (list area : Bytes) where
  -- GB comes behind every refusal: what it was given on is accepted
  given-accepted : next c ≡ true → first_given (status_table cat tab pos c list area) ≡ GB → Accepted cat tab [] area
  given-accepted n e =
      let cx = not-given _ _ (λ z. omega arith) e in
      let tx = not-given _ _ (λ z. omega arith) cx.1 in
      let px = not-given _ _ (λ z. omega arith) tx.1 in
      let ad = not-given _ _ (λ z. omega arith) px.1 in
      let ac = not-given _ _ (λ z. omega arith) ad.1 in
      let aj = not-given _ _ (λ z. omega arith) ac.1 in
      let ak = not-given _ _ (λ z. omega arith) aj.1 in
      let ah = not-given _ _ (λ z. omega arith) ak.1 in
      let aj2 = not-given _ _ (λ z. omega arith) ah.1 in
      let ab = not-given _ _ (λ z. omega arith) aj2.1 in
      let l : ltb (length area) (cell_size cat - 1) ≡ false = rw (next-is c n) at ab.0 in
      record {
        catalogue = not-true _ cx.0;
        table = not-true _ tx.0;
        read = ap (λ (r : ListRead). r.fault) (list-empty cat [] refl);
        long = omega (arith, ltb-false (length area) (cell_size cat - 1) l);
      }

-- LAW: demands 1 and 3 are enough
pub demands-start-over : (store : Store) → Demand1 store → Demand3 store → StartsOver store
demands-start-over store d₁ d₃ cat tab pos c list area e =
    let o : Outcome = store cat tab pos c list area in
    let a = d₁.answers cat tab pos c list area in
    let n : next c ≡ true = both_left (next c) _ (rw e at a.only) in
    let u : Untouched tab area _ o = a.over (ap number e) in
    let s : handed_on o ≡ start tab area = rw (u.table, u.area, u.position) in
    let r = d₃.read cat tab [] area (given-accepted cat tab pos c list area n (sym a.order ∙ e)) (suc (count tab)) (omega arith) in
    rw (s, ← all-picked cat tab) r

-- THEOREM
pub starts-over : StartsOver outcome
starts-over = demands-start-over outcome demand1 demand3
