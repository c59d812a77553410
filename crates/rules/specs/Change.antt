-- What a call makes of the cells, as one thing: later layers (other positions, rows of roots, other layouts) follow the change and not the cells.
-- Assumes nothing: these are definitions.
use Rattle.std.specs.Prelude.{List, ◌++◌, ℕ, ◌+◌, take, drop, set, None, Some, Option}
use Rattle.rules.specs.Cells.{Segment}

-- nothing; these segments become the cells from r on; x becomes cell i; the n cells from i on go
pub data Change : Type 0 where
  nothing : Change
  put : ℕ → List Segment → Change
  swap : ℕ → Segment → Change
  cut : ℕ → ℕ → Change

abbrev pub applied : Change → List Segment → List Segment
applied nothing cs = cs
applied (put r xs) cs = take r cs ++ (xs ++ drop r cs)
applied (swap i x) cs = set cs i x
applied (cut i n) cs = take i cs ++ drop (i + n) cs

-- the cells, if they changed
abbrev pub cells_after : Change → List Segment → Option (List Segment)
cells_after nothing cs = None
cells_after (put r xs) cs = Some (applied (put r xs) cs)
cells_after (swap i x) cs = Some (applied (swap i x) cs)
cells_after (cut i n) cs = Some (applied (cut i n) cs)
