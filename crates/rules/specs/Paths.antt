-- Where a program stands, in the terms of document 000, appendix I: a current path and a parent path, each a way from the root down to a segment. What
-- becomes of them stands here, over paths alone; the numbers in brackets are formulas of 000. The gap (R18) and the hold (R21) are added.
-- Assumes nothing: these are definitions.
use Rattle.std.specs.Prelude.{Bool, true, false, ◌&&◌, not, List, [], ◌∷◌, ◌++◌, ℕ, ltb, leb, eqb, None, Some, Option}
use Rattle.terms.specs.declared.Place.{Place}
use Rattle.terms.specs.declared.Place.TheVariants.{On, Before}
use Rattle.terms.specs.declared.Position.{Position}
use Rattle.terms.specs.Choice.{pick}
use Rattle.terms.specs.Names.{cell, Parentage}

-- (14) A path: the segments from the root down to one. A segment is named by its number in hierarchic order, so that precedes (19) is <.
abbrev pub Path : Type 0
Path = List ℕ

-- the segment that a path denotes: its last
abbrev pub end : Path → ℕ
end [] = 0
end (i ∷ []) = i
end (i ∷ (j ∷ p)) = end (j ∷ p)

-- (60) is-prefix: the one path is the front of the other
abbrev pub is_prefix : Path → Path → Bool
is_prefix [] p = true
is_prefix (i ∷ q) [] = false
is_prefix (i ∷ q) (j ∷ p) = eqb i j && is_prefix q p

-- the current path; or the gap before the segment of this number (R18)
pub data Current : Type 0 where
  on_path : Path → Current
  in_gap : ℕ → Current

-- current path, parent path or none, and the hold (R21)
pub record Standing : Type 0 where
  pub current : Current
  pub parent : Option Path
  pub hold : Bool

-- the path itself; a gap is on none
abbrev pub current_path : Current → Path
current_path (on_path p) = p
current_path (in_gap i) = []

-- (21) follows: what comes after the current path; from a gap, what stands behind it (R34)
abbrev pub follows : Current → Path → Bool
follows (on_path q) p = ltb (end q) (end p)
follows (in_gap i) p = leb i (end p)

-- (18) beneath: the parent path is the front of the path and not all of it; without a parent path nothing is beneath
abbrev pub beneath : Option Path → Path → Bool
beneath None p = false
beneath (Some q) p = is_prefix q p && not (is_prefix p q)

-- (41), (42) GU and GN found p: the position is (p, p); (43) GNP: (p, parent). The hold is that of the call (R38).
abbrev pub moved_to : Path → Bool → Standing
moved_to p hold = record { current = on_path p; parent = Some p; hold = hold }

abbrev pub moved_within : Option Path → Path → Bool → Standing
moved_within parent p hold = record { current = on_path p; parent = parent; hold = hold }

-- before the first call, and again where get-next has come to the end (R63): in front of the first segment, no parent path, no hold
abbrev pub start : Standing
start = record { current = in_gap 0; parent = None; hold = false }

-- nothing was found, or a record was replaced (55): both paths stay, and the hold goes (R62, R43)
abbrev pub let_go : Standing → Standing
let_go s = record { current = s.current; parent = s.parent; hold = false }

-- (56) adjust-insertion, by R42: the parent path stays if the new segment is beneath it, that is if inspos is that path or goes on from it
abbrev pub adjust_insertion : Path → Option Path → Option Path
adjust_insertion inspos None = None
adjust_insertion inspos (Some q) = pick (is_prefix q inspos) (Some q) None

-- (57) adjust-deletion: a parent path through the deleted segment is missing then. One that is left begins at a segment
-- above the deleted one, so that no number on it changes.
abbrev pub adjust_deletion : Path → Option Path → Option Path
adjust_deletion del None = None
adjust_deletion del (Some q) = pick (is_prefix del q) None (Some q)

-- (47) a segment was put beneath inspos, as number r
abbrev pub after_put : Path → ℕ → Standing → Standing
after_put inspos r s = record { current = on_path (inspos ++ (r ∷ [])); parent = adjust_insertion inspos s.parent; hold = false }

-- (52) the segment of a path was deleted with all beneath it: the gap where it stood (R45)
abbrev pub after_cut : Path → Standing → Standing
after_cut del s = record { current = in_gap (end del); parent = adjust_deletion del s.parent; hold = false }

-- the one way from paths to cell numbers
abbrev pub place_of : Current → Place
place_of (on_path p) = On (cell (end p))
place_of (in_gap i) = Before (cell i)

abbrev pub parentage_of : Option Path → Parentage
parentage_of None = None
parentage_of (Some p) = Some (cell (end p))

abbrev pub numbered : Standing → Position
numbered s = record { place = place_of s.current; parentage = parentage_of s.parent; hold = s.hold }
