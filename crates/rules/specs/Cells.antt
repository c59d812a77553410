-- The table as cells by number (R13 to R17): segments, the order of values, twins, levels, runs, ancestors, and which listings are well formed.
-- No byte of a table block is named here, so that a second layout can use it. Assumes nothing: these are definitions.
use Rattle.std.specs.declared.cmp.Ordering.{Ordering}
use Rattle.std.specs.Prelude.{Bool, true, ◌&&◌, ◌||◌, not, List, [], ◌∷◌, ℕ, ◌+◌, ◌-◌, ltb, eqb, length, get_or, take}
use Rattle.terms.specs.declared.TypeCode.{TypeCode}
use Rattle.terms.specs.Choice.{pick}
use Rattle.terms.specs.Names.{code, same_type}
use Rattle.std.specs.Ordering.{is_lt, is_eq, is_gt}
use Rattle.forest.specs.Forest.{forest_of}
use Rattle.forest.specs.Good.{formed}
use Rattle.forest.specs.Groups.{ok}
use Rattle.forest.specs.Numbers.{ancestors, run}
use Rattle.rules.specs.Block.{Bytes, part}
use Rattle.rules.specs.Order.{is_value, value_order}
use Rattle.rules.specs.Catalogue.{is_type, parent_of, length_of, key_kind, key_start, key_length, key_value, level}

-- R13: the segment that a cell holds
pub record Segment : Type 0 where
  pub code : TypeCode
  pub bytes : Bytes

abbrev pub type_number : Segment → ℕ
type_number s = s.code.0

-- no segment
abbrev pub blank : Segment
blank = record { code = code 0; bytes = [] }

-- the segment of cell i
abbrev pub segment : List Segment → ℕ → Segment
segment cs i = get_or cs i blank

module _ (cat : Bytes) where
  -- a segment of type t, from the front of these bytes
  unfoldable pub segment_of : TypeCode → Bytes → Segment
  segment_of t b = record { code = t; bytes = take (length_of cat t) b }

  -- the segment that new data makes (R39, R43)
  unfoldable pub arriving : TypeCode → Bytes → Segment
  arriving t area = segment_of t area

  -- what a get writes to the area (R37)
  unfoldable pub shown_bytes : Segment → Bytes
  shown_bytes s = s.bytes

  -- the length that an answer tells
  unfoldable pub long : Segment → ℕ
  long s = length_of cat s.code

  -- the key's bytes: none with kind 0
  unfoldable pub key : Segment → Bytes
  key s = part s.bytes (key_start cat s.code - 1) (key_length cat s.code)

  -- R89: the key is a value of its value type
  unfoldable pub keyed : Segment → Bool
  keyed s = is_value (key_value cat s.code) (key s)

  -- how the key of c stands to that of d, a segment of the same type
  unfoldable pub key_order : Segment → Segment → Ordering
  key_order c d = value_order (key_value cat c.code) (key c) (key d)

  -- R15: c may stand before its twin d
  unfoldable pub twin_order : Segment → Segment → Bool
  twin_order c d =
      pick (eqb (key_kind cat c.code) 0) true
      (pick (eqb (key_kind cat c.code) 1) (is_lt (key_order c d)) (not (is_gt (key_order c d))))

  -- a twin with the same key
  unfoldable pub same_key : Segment → Segment → Bool
  same_key c d = same_type c.code d.code && is_eq (key_order c d)

  -- a segment whose type has parent p; the top has parent 0
  unfoldable pub is_child : ℕ → Segment → Bool
  is_child p s = is_type cat s.code && eqb (parent_of cat s.code).0 p

  -- R14, R15: d may stand behind its sibling c
  abbrev pub siblings : Segment → Segment → Bool
  siblings c d = ok type_number is_child twin_order c d

  -- R41: a new segment x stands before its sibling c, which is one of a later group or a twin of greater key
  unfoldable pub goes_before : Segment → Segment → Bool
  goes_before x c = ltb (type_number x) (type_number c) || (same_type x.code c.code && is_lt (key_order x c))

  abbrev pub segment_level : Segment → ℕ
  segment_level s = level cat s.code

  -- R14: the cells list a forest whose top is of type 1
  unfoldable pub good_listing : List Segment → Bool
  good_listing cs = formed type_number is_child siblings 0 (forest_of segment_level cs)

  module _ (cs : List Segment) where
    unfoldable pub level_at : ℕ → ℕ
    level_at i = segment_level (segment cs i)

    -- R17: how many cells the run of a segment has
    unfoldable pub run_at : ℕ → ℕ
    run_at i = run level_at (length cs) i

    -- R17: where it ends
    unfoldable pub end_at : ℕ → ℕ
    end_at i = i + run_at i

    -- cell i and its ancestors, nearest first
    unfoldable pub row_at : ℕ → List ℕ
    row_at i = i ∷ ancestors level_at i
