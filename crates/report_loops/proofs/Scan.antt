-- Law A: a loop of gets, each of which seeks the first cell after the place that passes a test, shows exactly the cells that pass, in their order.
-- Assumes nothing.
use Rattle.std.specs.Prelude.{Some}
use mathlib.Core.Path.{◌≡◌, ap, sym, ◌∙◌}
use mathlib.Core.Bool.{Bool, true, false}
use mathlib.Core.List.{[], ◌∷◌, map}
use Prim.Native.Nat.{ℕ, zero, suc, ◌-◌, ◌<◌, ◌≤◌}
use native.Mathlib.Omega.{arith}
use Rattle.terms.specs.declared.Status.{Status}
use Rattle.terms.specs.declared.Status.TheVariants.{GE}
use Rattle.terms.specs.Moves.{after_place}
use Rattle.rules.specs.Outcome.{Outcome}
use Rattle.report_loops.specs.Loops.{State, handed_on, Seen, sight, is_last, Shown, ended, behind, loop}
use Rattle.report_loops.proofs.Hits.{Without, hits, hits-none, hits-first, nothing, found, first}

-- the first cell after the place
abbrev pub after : State → ℕ
after s = after_place s.position.place

-- a get that found nothing: its status ends a loop, and with GE it stays where it was
pub record Missed (Fit : State → Type 0) (miss : Status) (s : State) (o : Outcome) : Type 0 where
  pub ends : is_last o ≡ true
  pub status : o.answer.status ≡ miss
  pub stays : miss ≡ GE → after (handed_on o) ≡ after s
  pub fit : Fit (handed_on o)

-- a get that found cell j: it shows it, and moves onto it
pub record Hit (see : ℕ → Seen) (Then : ℕ → State → Type 0) (j : ℕ) (o : Outcome) : Type 0 where
  pub goes_on : is_last o ≡ false
  pub shows : sight o ≡ see j
  pub moves : after (handed_on o) ≡ suc j
  pub fit : Then j (handed_on o)

-- from states that fit, a get seeks the first cell after the place, and before e, that passes t
pub record Seeks (see : ℕ → Seen) (Fit : State → Type 0) (Then : ℕ → State → Type 0) (t : ℕ → Bool) (e : ℕ) (miss : Status) (get : State → Outcome) : Type 0 where
  pub none : (s : State) → Fit s → Without t (after s) e → Missed Fit miss s (get s)
  pub one : (s : State) (j : ℕ) → Fit s → after s ≤ j → j < e → t j ≡ true → Without t (after s) j → Hit see Then j (get s)

-- what a loop from s on has done
pub record Done (see : ℕ → Seen) (Fit : State → Type 0) (t : ℕ → Bool) (e : ℕ) (miss : Status) (s : State) (r : Shown) : Type 0 where
  pub seen : r.seen ≡ map see (hits t (after s) e)
  pub last : r.last ≡ Some miss
  pub fit : Fit r.handed
  pub on : miss ≡ GE → after s ≤ after r.handed
  pub within : miss ≡ GE → after r.handed ≤ e

-- one call of a loop
module _ (get : State → Outcome) (k : ℕ) (s : State) where
  loop-last : is_last (get s) ≡ true → loop get (suc k) s ≡ ended (get s)
  unfolding loop
  loop-last e = rw (loop, e)

  loop-on : is_last (get s) ≡ false → loop get (suc k) s ≡ behind (sight (get s) ∷ []) (loop get k (handed_on (get s)))
  unfolding loop
  loop-on e = rw (loop, e)

-- LAW A
module _ (see : ℕ → Seen) (Fit : State → Type 0) (Then : ℕ → State → Type 0) (t : ℕ → Bool) (e : ℕ) (miss : Status) (get : State → Outcome)
    (S : Seeks see Fit Then t e miss get) (again : (j : ℕ) (s : State) → Then j s → Fit s) where
  pub loop-seeks : (k : ℕ) (s : State) → Fit s → after s ≤ e → e - after s < k → Done see Fit t e miss s (loop get k s)
  loop-seeks zero s f a l = absurd (omega arith)
  loop-seeks (suc k) s f a l = elim (first t (after s) e) [
    | nothing g ↦
        let m = S.none s f g in
        rw (loop-last get k s m.ends)
        (record {
          seen = sym (ap (map see) (hits-none t (after s) e g));
          last = ap Some m.status;
          fit = m.fit;
          on = λ q. omega (arith, m.stays q);
          within = λ q. omega (arith, m.stays q);
        })
    | found j x y h g ↦
        let m = S.one s j f x y h g in
        let r = loop-seeks k (handed_on (get s)) (again j (handed_on (get s)) m.fit) (omega (arith, m.moves)) (omega (arith, m.moves)) in
        rw (loop-on get k s m.goes_on)
        (record {
          seen = ap (λ (q : Seen). q ∷ (loop get k (handed_on (get s))).seen) m.shows ∙ ap (◌∷◌ (see j)) (r.seen ∙ ap (λ (i : ℕ). map see (hits t i e)) m.moves)
              ∙ sym (ap (map see) (hits-first t (after s) j e x y h g));
          last = r.last;
          fit = r.fit;
          on = λ q. omega (arith, r.on q, m.moves);
          within = r.within;
        })
  ]
