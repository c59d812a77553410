-- Each status is given to its own calls only. Assumes nothing.
use mathlib.Core.Path.{◌≡◌, refl}
use mathlib.Core.Bool.{Bool, true, false, ◌&&◌, ◌||◌, not}
use mathlib.Core.List.{List, [], ◌∷◌}
use Prim.Native.Nat.{ℕ}
use Rattle.terms.specs.declared.Position.{Position}
use Rattle.terms.specs.declared.Status.{Status}
use Rattle.terms.specs.declared.Status.TheVariants.{Blank}
use Rattle.terms.specs.Choice.{pick}
use Rattle.forest.specs.Good.{is_nil, both_left}
use Rattle.rules.specs.Block.{Bytes}
use Rattle.demands.specs.StatusTable.{Row, first_given, is_on, next, within, get, isrt, repl, dlet, status_table}
use Rattle.demands.specs.Demand1.{is_given_to}

-- each row that is given may be given, by the test P
data Allowed (P : Status → Bool) : List Row → Type 0 where
  blank : P Blank ≡ true → Allowed P []
  also : {r : Row} {rs : List Row} → (r.given ≡ true → P r.status ≡ true) → Allowed P rs → Allowed P (r ∷ rs)

pick-allowed : (P : Status → Bool) (b : Bool) (s u : Status) → (b ≡ true → P s ≡ true) → P u ≡ true → P (pick b s u) ≡ true
pick-allowed P true s u f g = f refl
pick-allowed P false s u f g = g

-- so the first one may
first-allowed : (P : Status → Bool) {rs : List Row} → Allowed P rs → P (first_given rs) ≡ true
unfolding first_given
first-allowed P (blank e) = e
first-allowed P (also {r} {rs} f w) = pick-allowed P r.given r.status (first_given rs) f (first-allowed P w)

either-of : (a b d x y : Bool) → ((a && b && x) || (d && y)) ≡ true → ((a && b) || d) ≡ true
either-of true true d x y e = refl
either-of true false d x y e = both_left d y e
either-of false b d x y e = both_left d y e

stepped-of : (a b d x : Bool) → (a && b && d && x) ≡ true → a ≡ true
stepped-of a b d x e = both_left a b (both_left (a && b) d (both_left (a && b && d) x e))

pub only-own : (cat tab : Bytes) (pos : Position) (c : ℕ) (list area : Bytes) → is_given_to c list (first_given (status_table cat tab pos c list area)) ≡ true
only-own cat tab pos c list area =
    first-allowed (is_given_to c list)
    (also (λ e. refl) (also (λ e. refl) (also (λ e. refl)
    (also (λ e. e)
    (also (λ e. refl) (also (λ e. refl) (also (λ e. refl)
    (also (λ e. e)
    (also (λ e. refl)
    (also (both_left (not (dlet c)) _)
    (also (both_left (within c) _)
    (also (both_left (repl c || dlet c) _)
    (also (both_left (next c && is_nil list) _)
    (also (either-of (get c) (not (next c && is_nil list)) (isrt c) _ _)
    (also (both_left (repl c) _)
    (also (both_left (isrt c) _)
    (also (both_left (isrt c) _)
    (also (both_left (isrt c) _)
    (also (stepped-of ((next c || within c) && is_nil list) (is_on pos.place) _ _)
    (also (stepped-of ((next c || within c) && is_nil list) (is_on pos.place) _ _)
    (blank refl)))))))))))))))))))))
