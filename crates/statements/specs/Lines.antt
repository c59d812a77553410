-- The lines of a text (R73). Assumes nothing: these are definitions.
use Rattle.std.specs.Prelude.{true, false, List, [], ◌∷◌, ◌++◌, ℕ, eqb}
use Rattle.rules.specs.Block.{Bytes}
use Rattle.rules.specs.Listing.{line_end}

-- a byte before the first of these lines
unfoldable pub begins : ℕ → List Bytes → List Bytes
begins b [] = (b ∷ []) ∷ []
begins b (l ∷ ls) = (b ∷ l) ∷ ls

-- R73: what stands behind the last LF is a line only where it is not empty
unfoldable pub lines_of : Bytes → List Bytes
lines_of [] = []
lines_of (b ∷ bs) = elim (eqb b line_end) [ true ↦ [] ∷ lines_of bs | false ↦ begins b (lines_of bs) ]

-- lines as a text, each ended by LF
unfoldable pub text_of : List Bytes → Bytes
text_of [] = []
text_of (l ∷ ls) = l ++ (line_end ∷ text_of ls)
