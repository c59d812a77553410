-- Which segments match a list: the first one after a place, beneath a cell, along the position. Assumes nothing: these are definitions.
use Rattle.terms.specs.declared.CellNumber.{CellNumber}
use Rattle.std.specs.Prelude.{Bool, true, false, ◌&&◌, List, [], ◌∷◌, reverse, ℕ, zero, suc, ◌-◌, eqb, length, Some, None, Option}
use Rattle.terms.specs.declared.FieldNumber.{FieldNumber}
use Rattle.terms.specs.declared.Operator.{Operator}
use Rattle.terms.specs.declared.Place.{Place}
use Rattle.terms.specs.declared.Place.TheVariants.{On, Before}
use Rattle.terms.specs.Choice.{pick}
use Rattle.terms.specs.Names.{cell, same_type}
use Rattle.terms.specs.Operators.{holds}
use Rattle.rules.specs.Block.{Bytes, part}
use Rattle.rules.specs.Order.{is_value, value_order}
use Rattle.rules.specs.Catalogue.{field_start, field_length, field_value}
use Rattle.rules.specs.Cells.{Segment, segment, level_at, end_at, row_at}
use Rattle.rules.specs.Arguments.{Asked, implied, unqualified, qualified, Level}

abbrev pub is_implied : Asked → Bool
is_implied implied = true
is_implied unqualified = false
is_implied (qualified o f v) = false

module _ (cat : Bytes) where
  unfoldable pub field_bytes : FieldNumber → Segment → Bytes
  field_bytes f s = part s.bytes (field_start cat f - 1) (field_length cat f)

  -- R25: the field on the left, the value on the right; R90: a field that holds no value of its value type satisfies no operator
  unfoldable pub tested : Segment → Operator → FieldNumber → Bytes → Bool
  tested s o f v = is_value (field_value cat f) (field_bytes f s) && holds o (value_order (field_value cat f) (field_bytes f s) v)

  abbrev pub satisfies : Segment → Asked → Bool
  satisfies s implied = true
  satisfies s unqualified = true
  satisfies s (qualified o f v) = tested s o f v

  -- R28, R30: a segment against one level
  unfoldable pub agrees : Level → Segment → Bool
  agrees l s = same_type l.code s.code && satisfies s l.asked

  module _ (cs : List Segment) where
    -- the way from the root down to a cell
    unfoldable pub path_to : ℕ → List ℕ
    path_to i = reverse (row_at cat cs i)

    -- a completed list and a path agree level by level, to the end of both
    unfoldable pub agree : List Level → List ℕ → Bool
    agree [] [] = true
    agree [] (i ∷ path) = false
    agree (l ∷ ls) [] = false
    agree (l ∷ ls) (i ∷ path) = elim (agrees l (segment cs i)) [ true ↦ agree ls path | false ↦ false ]

    -- R28, R29. A list that is not empty counts here as completed, and a completed list is not empty.
    unfoldable pub matches : List Level → ℕ → Bool
    matches [] i = true
    matches (l ∷ ls) i = agree (l ∷ ls) (path_to i)

    -- the first match among n cells from cell i on
    unfoldable pub seek : List Level → ℕ → ℕ → Option CellNumber
    seek ls i zero = None
    seek ls i (suc n) = elim (matches ls i) [ true ↦ Some (cell i) | false ↦ seek ls (suc i) n ]

    -- the first match from cell i on that lies before cell e
    unfoldable pub first_match : List Level → ℕ → ℕ → Option CellNumber
    first_match ls i e = seek ls i (e - i)

    -- R30: the cell at which what is kept of the stretch ends; q is what was kept so far
    unfoldable pub kept_on : List Level → List ℕ → Option CellNumber → Option CellNumber
    kept_on [] path q = q
    kept_on (l ∷ ls) [] q = q
    kept_on (l ∷ ls) (i ∷ path) q = elim (agrees l (segment cs i)) [
      | true ↦ kept_on ls path (pick (is_implied l.asked) (Some (cell i)) q)
      | false ↦ q
    ]

    -- R30, R31: what is kept from a place
    abbrev pub kept : List Level → Place → Option CellNumber
    kept ls (On c) = kept_on ls (path_to c.0) None
    kept ls (Before c) = None

    -- R30: where what is left of the list is sought
    abbrev pub sought_beneath : List Level → Option CellNumber → Option CellNumber
    sought_beneath ls None = first_match ls 0 (length cs)
    sought_beneath ls (Some c) = pick (eqb (level_at cat cs c.0) (length ls)) (Some c) (first_match ls (suc c.0) (end_at cat cs c.0))

    -- R30: the first match along the position
    unfoldable pub along : List Level → Place → Option CellNumber
    along ls q = sought_beneath ls (kept ls q)
