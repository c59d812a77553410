-- On sound blocks and a good position the two promises of a call are one. Assumes nothing.
use mathlib.Core.Path.{◌≡◌}
use Prim.Native.Nat.{ℕ}
use Rattle.terms.specs.declared.Position.{Position}
use Rattle.terms.specs.declared.Status.TheVariants.{Blank}
use Rattle.rules.specs.Block.{Bytes}
use Rattle.rules.specs.Outcome.{unsound, unless, after_call, outcome_of, outcome, sound_outcome}

pub sound-outcome : (cat tab : Bytes) (pos : Position) (c : ℕ) (list area : Bytes) → unsound cat tab pos ≡ Blank
    → outcome cat tab pos c list area ≡ sound_outcome cat tab pos c list area
unfolding outcome outcome_of after_call unless sound_outcome
sound-outcome cat tab pos c list area e = rw e
