-- What the calls make of a position, as a single table of cases; the single claim is in proofs/Moved.antt. Assumes nothing: these are definitions.
use Rattle.std.specs.Prelude.{Bool, true, false, List, [], ◌∷◌, ℕ, None, Some}
use Rattle.terms.specs.declared.Place.{Place}
use Rattle.terms.specs.declared.Place.TheVariants.{On, Before}
use Rattle.terms.specs.declared.Position.{Position}
use Rattle.terms.specs.Names.{cell, Parentage}
use Rattle.terms.specs.Moves.{fresh, moved_onto, hold_dropped, after_insert, after_delete}

-- what is made, and what the rules say
pub record Move : Type 0 where
  pub made : Position
  pub said : Position

infix 10 ◌gives◌
abbrev pub ◌gives◌ : Position → Position → Move
made gives said = record { made = made; said = said }

abbrev pub stands : Place → Parentage → Bool → Position
stands place parentage hold = record { place = place; parentage = parentage; hold = hold }

abbrev pub on : ℕ → Place
on i = On (cell i)

abbrev pub gap : ℕ → Place
gap i = Before (cell i)

abbrev pub of : ℕ → Parentage
of p = Some (cell p)

-- held, on cell 3, which has a run of three: 3, 4 and 5
abbrev pub held : Parentage → Position
held p = stands (on 3) p true

unfoldable pub moves : List Move
moves =
    -- fresh (R19)
    (fresh gives stands (gap 0) None false)
    -- a get (R37): with the parentage and the hold that the call gives
    ∷ (moved_onto 3 (of 1) true gives stands (on 3) (of 1) true)
    ∷ (moved_onto 3 (of 3) false gives stands (on 3) (of 3) false)
    -- a miss (R62): the hold goes and nothing else
    ∷ (hold_dropped (held (of 1)) gives stands (on 3) (of 1) false)
    ∷ (hold_dropped (held None) gives stands (on 3) None false)
    ∷ (hold_dropped (stands (gap 4) (of 1) false) gives stands (gap 4) (of 1) false)
    -- ISRT (R42)
    ∷ (after_insert 6 true (held (of 3)) gives stands (on 6) (of 3) false)
    ∷ (after_insert 9 false (held (of 3)) gives stands (on 9) None false)
    ∷ (after_insert 9 false (held None) gives stands (on 9) None false)
    ∷ (after_insert 0 false (stands (gap 0) None false) gives stands (on 0) None false)
    -- DLET (R45): with the parentage at the run's first cell, in it, at its last one
    ∷ (after_delete 3 3 (held (of 3)) gives stands (gap 3) None false)
    ∷ (after_delete 3 3 (held (of 4)) gives stands (gap 3) None false)
    ∷ (after_delete 3 3 (held (of 5)) gives stands (gap 3) None false)
    -- before the run, right before it, right behind it; and where there was none
    ∷ (after_delete 3 3 (held (of 0)) gives stands (gap 3) (of 0) false)
    ∷ (after_delete 3 3 (held (of 2)) gives stands (gap 3) (of 2) false)
    ∷ (after_delete 3 3 (held (of 6)) gives stands (gap 3) (of 6) false)
    ∷ (after_delete 3 3 (held None) gives stands (gap 3) None false)
    ∷ []
