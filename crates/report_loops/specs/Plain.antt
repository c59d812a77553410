-- The plain reading of a table with a list: every cell from first to last, tested with its ancestors. It uses no completed list, no place and no search.
-- Assumes nothing: these are definitions.
use Rattle.std.specs.Prelude.{Bool, true, false, ◌&&◌, ◌||◌, not, List, [], ◌∷◌, ℕ}
use Rattle.terms.specs.declared.Argument.{Argument}
use Rattle.terms.specs.Names.{same_type}
use Rattle.forest.specs.Numbers.{range}
use Rattle.rules.specs.Block.{Bytes, every}
use Rattle.rules.specs.Cells.{Segment, segment, row_at}
use Rattle.rules.specs.Table.{count, listing}
use Rattle.rules.specs.Arguments.{meant, last_argument, list_read}
use Rattle.rules.specs.Matching.{satisfies}

-- those that pass, in their order
unfoldable pub filter : {A : Type 0} → (A → Bool) → List A → List A
filter t [] = []
filter t (x ∷ xs) = elim (t x) [ true ↦ x ∷ filter t xs | false ↦ filter t xs ]

module _ (cat list : Bytes) where
  -- a segment satisfies an argument, if that is one for its type
  abbrev pub heeds : Segment → Argument → Bool
  heeds s a = not (same_type a.code s.code) || satisfies cat s (meant cat list a.qualification)

  -- a cell matches a list (R28, R29), asked of its row argument by argument
  abbrev pub meets : List Segment → List Argument → ℕ → Bool
  meets cs [] i = true
  meets cs (a ∷ ar) i = same_type (segment cs i).code (last_argument (a ∷ ar)).code && every (λ j. every (heeds (segment cs j)) (a ∷ ar)) (row_at cat cs i)

-- the numbers of the cells that match, in their order
unfoldable pub picked : Bytes → Bytes → Bytes → List ℕ
picked cat tab list = filter (meets cat list (listing cat tab) (list_read cat list).arguments) (range 0 (count tab))
