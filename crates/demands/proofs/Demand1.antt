-- The promise meets demand 1. Assumes nothing.
use mathlib.Core.Path.{◌≡◌, ◌∙◌}
use mathlib.Core.Bool.{true, false, not}
use Prim.Native.Nat.{ℕ, ◌<◌, ◌≤◌}
use native.Mathlib.Omega.{arith}
use borrow.Author.Tests.{le-leb, eq-eqb, ne_eqb}
use Rattle.terms.specs.declared.Position.{Position}
use Rattle.terms.specs.declared.Status.{Status}
use Rattle.terms.specs.declared.Status.TheVariants.{Blank, CX, TX, PX}
use Rattle.terms.specs.Statuses.{number}
use Rattle.terms.specs.Moves.{fresh, hold_dropped}
use Rattle.rules.specs.Calls.{After, refused, missed, called}
use Rattle.forest.specs.Good.{on, off, is}
use Rattle.rules.specs.Block.{Bytes}
use Rattle.rules.specs.Catalogue.{good_catalogue}
use Rattle.rules.specs.Table.{listing, good_table}
use Rattle.rules.specs.Position.{good_position, position_of}
use Rattle.rules.specs.Outcome.{Outcome, is_blank, unsound, stopped, unless, after_call, outcome_of, outcome}
use Rattle.rules.proofs.Block.{canonical, block_refused, block-fresh, block-missed}
use Rattle.rules.proofs.Choice.{pick-of}
use Rattle.encoding.specs.Determined.{IsBytes}
use Rattle.model.proofs.Asked.{sound-of}
use Rattle.demands.specs.Demand1.{Answers, AnswersBlock, Demand1}
use Rattle.demands.proofs.Order.{outcome-status}
use Rattle.demands.proofs.Only.{only-own}
use Rattle.demands.proofs.Results.{Says, number-known, says-outcome, untouched}

-- what GB leaves, and what GE and GP do
missed-over : (s : Status) (pos : Position) (area : Bytes) → number s ≡ 10 → missed s pos area ≡ refused s fresh area
missed-over s pos area e = rw (eq-eqb (number s) 10 e)

missed-kept : (s : Status) (pos : Position) (area : Bytes) → 11 ≤ number s → missed s pos area ≡ refused s (hold_dropped pos) area
missed-kept s pos area l = rw (ne_eqb (number s) 10 (λ e. omega arith))

module _ (cat tab : Bytes) (pos : Position) (c : ℕ) (list area : Bytes) where
  outcome-answers : Answers cat tab pos c list area (outcome cat tab pos c list area)
  unfolding outcome outcome_of
  outcome-answers =
      let a : After = after_call called cat tab pos c list area in
      let s : Says cat tab pos list area c a = says-outcome cat tab pos list area c in
      record {
        known = number-known a.answer.status;
        order = outcome-status cat tab pos c list area;
        only = rw (outcome-status cat tab pos c list area) (only-own cat tab pos c list area);
        refusal = λ h. untouched cat tab pos list area pos a (s.high h);
        over = λ e. untouched cat tab pos list area fresh a (s.low (omega arith) (omega arith) ∙ missed-over a.answer.status pos area e);
        miss = λ h l. untouched cat tab pos list area (hold_dropped pos) a (s.low (omega arith) l ∙ missed-kept a.answer.status pos area h);
      }

  -- CX, TX and PX are 20 and above
  abbrev High : Status → Type 0
  High s = is_blank s ≡ false → 20 ≤ number s

  unsound-high : High (unsound cat tab pos)
  unfolding unsound
  unsound-high =
      pick-of High (not (good_catalogue cat)) CX _ (λ e. omega arith)
      (pick-of High (not (good_table cat tab)) TX _ (λ e. omega arith)
      (pick-of High (not (good_position cat (listing cat tab) pos)) PX Blank (λ e. omega arith)
      (λ e. absurd (let z : ◌≡◌ {A = ℕ} 0 1 = cc in omega arith))))

  -- so a call that ends below 20 was made at a good position
  below-good : number (outcome cat tab pos c list area).answer.status < 20 → good_position cat (listing cat tab) pos ≡ true
  unfolding outcome outcome_of after_call unless stopped
  below-good l = elim (is (is_blank (unsound cat tab pos))) [
    | on e ↦ (sound-of cat tab pos e).position
    | off e ↦
        let h : 20 ≤ number (unsound cat tab pos) = unsound-high e in
        let m : number (unsound cat tab pos) < 20 = rw (e, le-leb 20 (number (unsound cat tab pos)) h) at l in
        absurd (omega arith)
  ]

outcome-blocks : (cat tab block : Bytes) (c : ℕ) (list area : Bytes) → IsBytes block → AnswersBlock block (outcome cat tab (position_of block) c list area)
outcome-blocks cat tab block c list area bytes =
    let o : Outcome = outcome cat tab (position_of block) c list area in
    record {
      refusal = block_refused block o.answer;
      over = λ e. block-fresh block o.answer (omega arith) ((outcome-answers cat tab (position_of block) c list area).over e).position;
      miss = λ h l.
          block-missed block o.answer bytes (canonical.only cat (listing cat tab) block (below-good cat tab (position_of block) c list area l)) l
          ((outcome-answers cat tab (position_of block) c list area).miss h l).position;
    }

-- THEOREM
pub demand1 : Demand1 outcome
demand1 = record { answers = outcome-answers; blocks = outcome-blocks }
