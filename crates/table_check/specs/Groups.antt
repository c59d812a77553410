-- What the twin-group reader and the segment reader leave of a stretch of cells. Assumes nothing: these are definitions.
use Rattle.std.specs.Prelude.{Bool, List, ℕ, suc, ◌-◌, None, Some, Option}
use Rattle.forest.specs.Numbers.{range}
use Rattle.forest.specs.Groups as Groups
use Rattle.rules.specs.Block.{Bytes}
use Rattle.rules.specs.Cells.{Segment, segment, type_number, is_child, twin_order}

-- the reader of rows (forest: Groups) over cell numbers
module _ (cat : Bytes) (cs : List Segment) where
  abbrev pub typ : ℕ → ℕ
  typ i = type_number (segment cs i)

  abbrev pub fit : ℕ → ℕ → Bool
  fit p i = is_child cat p (segment cs i)

  abbrev pub key_ok : ℕ → ℕ → Bool
  key_ok i j = twin_order cat (segment cs i) (segment cs j)

  -- cell i is the next twin of type v, q being the last
  unfoldable pub is_twin : ℕ → Option ℕ → ℕ → Bool
  is_twin v q i = Groups.twin typ fit key_ok v q i

  -- what is left of the cells behind the twins of type v
  unfoldable pub after_group : ℕ → Option ℕ → ℕ → ℕ → List ℕ
  after_group v q i left = Groups.group typ fit key_ok v q (range i left)

  -- what is left of the cells behind the row of segments under a segment of type p
  unfoldable pub after_row : ℕ → ℕ → ℕ → List ℕ
  after_row p i left = Groups.rest_of typ fit key_ok p None (range i left)

  -- what is left of the cells behind the twins of type v, cell i being one of them and the first of `left` cells
  unfoldable pub after_twin : ℕ → ℕ → ℕ → List ℕ
  after_twin v i left = Groups.group typ fit key_ok v (Some i) (after_row v (suc i) (left - 1))

  -- what is left behind the row, where the groups of the types up to b have been read
  unfoldable pub after_types : ℕ → ℕ → ℕ → ℕ → List ℕ
  after_types p b i left = Groups.above_of typ fit key_ok p b (range i left)
