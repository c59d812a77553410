-- A call that found nothing leaves a good position, if it stood at one: the fresh position is good, and none becomes bad by losing its hold.
-- Assumes nothing.
use mathlib.Core.Path.{◌≡◌, refl}
use mathlib.Core.Bool.{true, false, ◌&&◌}
use mathlib.Core.List.{List}
use native.Mathlib.Omega.{arith}
use lib.Dec.{eqb}
use lib.ListN.{length}
use borrow.Author.Tests.{le-leb}
use Rattle.terms.specs.declared.Place.{Place}
use Rattle.terms.specs.declared.Place.TheVariants.{On, Before}
use Rattle.terms.specs.declared.Position.{Position}
use Rattle.terms.specs.declared.Status.{Status}
use Rattle.terms.specs.Statuses.{number}
use Rattle.terms.specs.Moves.{fresh, hold_dropped}
use Rattle.forest.specs.Good.{both_left}
use Rattle.rules.specs.Block.{Bytes}
use Rattle.rules.specs.Cells.{Segment}
use Rattle.rules.specs.Position.{good_place, good_parentage, good_hold, good_position}
use Rattle.rules.specs.Calls.{after_miss}
use Rattle.rules.proofs.Choice.{pick-of}

module _ (cat : Bytes) (cs : List Segment) where
  pub fresh-good : good_position cat cs fresh ≡ true
  unfolding good_position
  fresh-good = rw (le-leb 0 (length cs) (omega arith))

  pub no-hold : (q : Place) → good_hold cat cs q false ≡ true
  no-hold (On c) = refl
  no-hold (Before c) = refl

  pub dropped-good : (pos : Position) → good_position cat cs pos ≡ true → good_position cat cs (hold_dropped pos) ≡ true
  unfolding good_position
  dropped-good pos e =
      let a : (good_place cat cs pos.place && good_parentage cat cs pos.place pos.parentage) ≡ true =
      both_left (good_place cat cs pos.place && good_parentage cat cs pos.place pos.parentage) (good_hold cat cs pos.place pos.hold) e in
      rw (a, no-hold pos.place)

  -- LAW
  pub miss-good : (s : Status) (pos : Position) → good_position cat cs pos ≡ true → good_position cat cs (after_miss s pos) ≡ true
  miss-good s pos e =
      pick-of (λ (p : Position). good_position cat cs p ≡ true) (eqb (number s) 10) fresh (hold_dropped pos) fresh-good (dropped-good pos e)
