-- Where a new segment goes, and what the search for its spot is lent. Assumes nothing: these are definitions.
use Rattle.std.specs.declared.cmp.Ordering.{Ordering}
use Rattle.std.specs.declared.cmp.Ordering.TheVariants.{Greater, Less}
use Rattle.std.specs.Prelude.{◌≡◌, true, ◌&&◌, List, ℕ, ◌+◌, ◌-◌, ◌≤◌, ◌<◌, ltb, eqb, length, drop}
use Rattle.terms.specs.declared.TypeCode.{TypeCode}
use Rattle.terms.specs.Choice.{pick}
use Rattle.forest.specs.Insert.{spot}
use Rattle.rules.specs.Block.{Bytes}
use Rattle.rules.specs.Catalogue.{parent_of, length_of, key_kind, is_type, good_catalogue}
use Rattle.rules.specs.Cells.{Segment, segment, type_number, arriving, keyed, key_order, goes_before, segment_level, end_at}
use Rattle.rules.specs.Table.{count, listing}
use Rattle.rules.specs.Calls.{key_taken}
use Rattle.cells.specs.Sound.{Sound}
use Rattle.twins.specs.declared.Spot.{Spot}

-- a new segment of type t, with the area's first L bytes
pub record Brought (cat : Bytes) (t : TypeCode) (area : Bytes) : Type 0 where
  pub catalogue : good_catalogue cat ≡ true
  pub known : is_type cat t ≡ true
  pub enough : length_of cat t ≤ length area

-- the same, and a checked table that it goes to
pub record New (cat tab : Bytes) (size : ℕ) (t : TypeCode) (area : Bytes) : Type 0 where
  pub sound : Sound cat tab size
  pub known : is_type cat t ≡ true
  pub enough : length_of cat t ≤ length area

-- and its key is a value (R91)
abbrev pub Keyed : Bytes → TypeCode → Bytes → Type 0
Keyed cat t area = keyed cat (arriving cat t area) ≡ true

-- the cells from `from` to before `to` are all those beneath its parent: for type 1 all cells, else those behind cell p in the run of p
pub data Beneath (cat tab : Bytes) (t : TypeCode) (from to : ℕ) : Type 0 where
  top : t.0 ≡ 1 → from ≡ 0 → to ≡ count tab → Beneath cat tab t from to
  child : (p : ℕ) → p < count tab → (segment (listing cat tab) p).code ≡ parent_of cat t → from ≡ p + 1 → to ≡ end_at cat (listing cat tab) p → Beneath cat tab t from to

module _ (cat : Bytes) where
  -- how a new segment x stands to a cell c beneath its parent: Greater, it passes c, one of an earlier group or deeper than x; Smaller, it goes
  -- before c; Equal, c is a twin with its key
  unfoldable pub stands_to : Segment → Segment → Ordering
  stands_to x c =
      pick (ltb (type_number c) (type_number x)) Greater
      (pick (eqb (type_number c) (type_number x)) (key_order cat x c)
      (pick (ltb (segment_level cat x) (segment_level cat c)) Greater Less))

  module _ (cs : List Segment) (x : Segment) where
    -- how many of the cells from i on x passes
    unfoldable pub passed : ℕ → ℕ
    passed i = spot (segment_level cat) x (goes_before cat x) (drop i cs)

    -- where x goes, and whether a cell that it passes has its key
    unfoldable pub placed : ℕ → Spot
    placed from = record { at = from + passed from; taken = key_taken cat cs x from (passed from) }

    -- where x goes among the cells from `from` to before `to` (R41), and whether its key is taken (R59)
    unfoldable pub spot_among : ℕ → ℕ → Spot
    spot_among from to = record { at = from + passed from; taken = eqb (key_kind cat x.code) 1 && key_taken cat cs x from (to - from) }
