-- What the calls make of a position is what the cases of Moved.antt say. Each is computed from the definitions. Assumes nothing.
use mathlib.Core.Path.{◌≡◌, refl}
use mathlib.Core.List.{map}
use Rattle.terms.specs.Moved.{Move, moves}

-- the one claim
pub moved : map (λ (m : Move). m.made) moves ≡ map (λ (m : Move). m.said) moves
unfolding moves
moved = refl
