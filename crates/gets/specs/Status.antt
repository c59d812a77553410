-- The status of a get with an empty list, from the types and from the cell before. Assumes nothing: these are definitions.
use Rattle.std.specs.Prelude.{Bool, ◌&&◌, not, List, [], ℕ, ◌-◌, ltb, eqb}
use Rattle.terms.specs.declared.TypeCode.{TypeCode}
use Rattle.terms.specs.declared.Place.TheVariants.{On}
use Rattle.terms.specs.declared.Status.{Status}
use Rattle.terms.specs.declared.Status.TheVariants.{Blank, GA, GK}
use Rattle.terms.specs.Choice.{pick}
use Rattle.terms.specs.Names.{cell, same_type}
use Rattle.rules.specs.Block.{Bytes}
use Rattle.rules.specs.Catalogue.{level}
use Rattle.rules.specs.Cells.{Segment}
use Rattle.rules.specs.Calls.{level_status}

-- of a segment of type t, where the place was on one of type u
unfoldable pub change_status : Bytes → TypeCode → TypeCode → Status
change_status cat u t = pick (ltb (level cat t) (level cat u)) GA (pick (eqb (level cat t) (level cat u) && not (same_type t u)) GK Blank)

-- of cell i, where the place was on the cell before it; in a gap there is none to compare with
abbrev pub next_status : Bytes → List Segment → Bool → ℕ → Status
next_status cat cs on i = pick on (level_status cat cs [] (On (cell (i - 1))) i) Blank
