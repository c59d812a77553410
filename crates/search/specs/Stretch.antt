-- The one number that a search carries: how far down its path a cell agrees with a completed list. Assumes nothing: these are definitions.
use Rattle.std.specs.Prelude.{◌≡◌, Bool, true, false, ◌&&◌, List, reverse, ℕ, zero, suc, ◌≤◌, ◌<◌, eqb}
use Rattle.terms.specs.declared.TypeCode.{TypeCode}
use Rattle.terms.specs.Names.{code}
use Rattle.forest.specs.Numbers.{ancestors, is_in}
use Rattle.rules.specs.Block.{Bytes, every}
use Rattle.rules.specs.Catalogue.{parent_of, lineage}
use Rattle.rules.specs.Cells.{Segment, level_at}
use Rattle.rules.specs.Arguments.{Asked, implied, unqualified, qualified, Level, list_read, asked_of, complete}
use Rattle.rules.specs.Matching.{satisfies, is_implied, path_to}
use Rattle.rules.specs.Tree.{try_path}

-- the list leaves out type u: its level is implied
abbrev pub is_left_out : Bytes → Bytes → TypeCode → Bool
is_left_out cat list u = is_implied (asked_of cat list (list_read cat list).arguments u)

-- nothing is tested: every segment satisfies it
abbrev pub is_plain : Asked → Bool
is_plain implied = true
is_plain unqualified = true
is_plain (qualified o f v) = false

module _ (cat list : Bytes) (t : TypeCode) where
  -- the list tests nothing of the types above t: a segment's own type and bytes tell whether it matches
  unfoldable pub plain_above : Bool
  plain_above = every (λ u. is_plain (asked_of cat list (list_read cat list).arguments (code u))) (lineage cat (parent_of cat t))

  -- the list, completed down to type t; no levels, for no type
  abbrev pub levels : List Level
  levels = complete cat list (list_read cat list).arguments t

  -- a segment agrees with the level of its own type, by itself: no level has to be counted
  unfoldable pub agrees_alone : Segment → Bool
  agrees_alone s = is_in s.code.0 (lineage cat t) && satisfies cat s (asked_of cat list (list_read cat list).arguments s.code)

  -- a segment has type t and satisfies what the list asks of it: for such a list it matches
  unfoldable pub matches_alone : Segment → Bool
  matches_alone s = eqb s.code.0 t.0 && agrees_alone s

module _ (cat : Bytes) (cs : List Segment) (ls : List Level) where
  -- R30: how far the path to a cell agrees with the completed list
  unfoldable pub stretch : ℕ → ℕ
  stretch i = try_path cat cs ls (path_to cat cs i)

  -- the same for the path that ends at its parent
  unfoldable pub stretch_above : ℕ → ℕ
  stretch_above i = try_path cat cs ls (reverse (ancestors (level_at cat cs) i))

  -- the stretch of the cell before cell i
  abbrev pub stretch_before : ℕ → ℕ
  stretch_before zero = 0
  stretch_before (suc i) = stretch i

  -- k is the stretch of a path that has the whole path to the parent of cell i in it: what is carried to cell i. Where it ends above the cell it
  -- is that of the path to the parent; where it reaches the parent, that path agrees as a whole
  pub record Carried (i k : ℕ) : Type 0 where
    pub short : k < level_at cat cs i → stretch_above i ≡ k
    pub full : level_at cat cs i ≤ suc k → suc (stretch_above i) ≡ level_at cat cs i
