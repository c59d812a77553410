-- The status of every outcome is that of the first row given. Assumes nothing.
use mathlib.Core.Path.{◌≡◌, refl, ap, ◌∙◌}
use mathlib.Core.Bool.{Bool, true, false, ◌&&◌, ◌||◌, not}
use mathlib.Core.List.{List}
use Prim.Native.Nat.{ℕ, ◌-◌}
use lib.Dec.{ltb, leb, eqb}
use lib.ListN.{length}
use borrow.Author.Tests.{leb-true, not-false}
use Rattle.terms.specs.declared.Position.{Position}
use Rattle.terms.specs.declared.Argument.{Argument}
use Rattle.terms.specs.declared.Status.{Status}
use Rattle.terms.specs.declared.Status.TheVariants.{Blank, GP, CX, TX, PX, AD, AC, AJ, AK, AH, AB, DJ}
use Rattle.terms.specs.Choice.{pick}
use Rattle.terms.specs.Statuses.{number}
use Rattle.terms.specs.Moves.{is_absent}
use Rattle.forest.specs.Good.{is_nil, on, off, is, both_left, both_right}
use Rattle.rules.specs.Block.{Bytes}
use Rattle.rules.specs.Catalogue.{good_catalogue}
use Rattle.rules.specs.Table.{cell_size, room, listing, good_table}
use Rattle.rules.specs.Position.{good_position}
use Rattle.rules.specs.Arguments.{list_read, last_argument, is_qualified}
use Rattle.rules.specs.Calls.{After, called}
use Rattle.rules.specs.Outcome.{is_blank, unsound, misused, stopped, unless, after_sound, after_call, outcome_of, outcome}
use Rattle.arguments.specs.Sound.{SoundList}
use Rattle.demands.specs.StatusTable.{first_given, asked_rows, status_table}
use Rattle.demands.proofs.Faults.{FaultOf, no-fault, type-fault, list-fault, field-fault, list-fault-of}
use Rattle.demands.proofs.Own.{nil-arguments, told}

-- the status of a call behind a refusal s
unless-status : (s : Status) (pos : Position) (area : Bytes) (done : After) → (unless s pos area done).answer.status ≡ pick (is_blank s) done.answer.status s
unfolding unless stopped
unless-status s pos area done = elim (is (is_blank s)) [
  | on e ↦ rw e
  | off e ↦ elim (is (leb 20 (number s))) [ on f ↦ rw (e, f) | off f ↦ rw (e, f) ]
]

-- one row after the other: where b does not refuse, e is what the others and the call give
row-then : (b : Bool) (s u d e : Status) → is_blank s ≡ false → (b ≡ false → pick (is_blank u) d u ≡ e) → pick (is_blank (pick b s u)) d (pick b s u) ≡ pick b s e
row-then true s u d e n f = rw n
row-then false s u d e n f = f refl

faults-then : {s : Status} → FaultOf s → (u d e : Status) → (s ≡ Blank → pick (is_blank u) d u ≡ e)
    → pick (is_blank (pick (not (is_blank s)) s u)) d (pick (not (is_blank s)) s u)
    ≡ pick (eqb (number s) 24) AC (pick (eqb (number s) 25) AJ (pick (eqb (number s) 26) AK e))
faults-then no-fault u d e f = f refl
faults-then type-fault u d e f = refl
faults-then list-fault u d e f = refl
faults-then field-fault u d e f = refl

module _ (cat tab : Bytes) (pos : Position) (c : ℕ) (list area : Bytes) where
  abbrev ar : List Argument
  ar = (list_read cat list).arguments

  abbrev own : Status
  own = (called cat (listing cat tab) pos area (room cat tab) c list ar).answer.status

  -- 23 and what follows
  asked-status : good_catalogue cat ≡ true
      → pick (is_blank (misused cat pos c list area)) own (misused cat pos c list area) ≡ first_given (asked_rows cat tab pos c list area)
  unfolding misused first_given
  asked-status g =
      row-then (not (leb 1 c && leb c 9)) AD _ own _ refl (λ n.
      faults-then (list-fault-of cat list) _ own _ (λ r.
      let s : SoundList cat list = record { catalogue = g; read = r } in
      rw (nil-arguments cat list s)
      (row-then (eqb c 7 && is_nil list) AH _ own _ refl (λ _.
      row-then ((eqb c 7 && is_qualified (last_argument ar).qualification) || ((eqb c 8 || eqb c 9) && not (is_nil list))) AJ _ own _ refl (λ _.
      row-then (not (eqb c 9) && ltb (length area) (cell_size cat - 1)) AB _ own _ refl (λ _.
      row-then ((eqb c 3 || eqb c 6) && is_absent pos.parentage) GP _ own _ refl (λ _.
      row-then ((eqb c 8 || eqb c 9) && not pos.hold) DJ Blank own _ refl (λ _.
      let k : (leb 1 c && leb c 9) ≡ true = not-false (leb 1 c && leb c 9) n in
      told cat tab pos list area s c (leb-true 1 c (both_left (leb 1 c) (leb c 9) k)) (leb-true c 9 (both_right (leb 1 c) (leb c 9) k))))))))))

  -- LAW: the first row that is given
  pub outcome-status : (outcome cat tab pos c list area).answer.status ≡ first_given (status_table cat tab pos c list area)
  unfolding outcome outcome_of after_call after_sound unsound first_given
  outcome-status =
      unless-status (unsound cat tab pos) pos area _
      ∙ ap (λ (d : Status). pick (is_blank (unsound cat tab pos)) d (unsound cat tab pos)) (unless-status (misused cat pos c list area) pos area _)
      ∙ (row-then (not (good_catalogue cat)) CX _ _ _ refl (λ g.
      row-then (not (good_table cat tab)) TX _ _ _ refl (λ _.
      row-then (not (good_position cat (listing cat tab) pos)) PX Blank _ _ refl (λ _. asked-status (not-false (good_catalogue cat) g)))))
