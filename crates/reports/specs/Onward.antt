-- What a loop of get-next-within-parent has shown. Assumes nothing: these are definitions.
use Rattle.std.specs.Prelude.{◌≡◌, Bool, List, ℕ, suc, ◌+◌, ◌-◌, ◌≤◌, length}
use Rattle.forest.specs.Numbers.{range}
use Rattle.rules.specs.Block.{Bytes}
use Rattle.rules.specs.Cells.{end_at}
use Rattle.rules.specs.Table.{listing}
use Rattle.rules.specs.Arguments.{list_read, get_levels}
use Rattle.rules.specs.Matching.{matches}
use Rattle.report_loops.specs.Plain.{filter}
use Rattle.reports.specs.Shown.{shown_from}
use Rattle.reports.specs.declared.nesting.Onward.{Onward}

-- a cell matches the list of a get
abbrev pub test : Bytes → Bytes → Bytes → ℕ → Bool
test cat tab list = matches cat (listing cat tab) (get_levels cat list (list_read cat list).arguments)

-- the cells that match, from cell i on and before cell e
abbrev pub between : Bytes → Bytes → Bytes → ℕ → ℕ → List ℕ
between cat tab list i e = filter (test cat tab list) (range i (e - i))

-- the cells that match beneath cell p
abbrev pub found_beneath : Bytes → Bytes → Bytes → ℕ → List ℕ
found_beneath cat tab list p = between cat tab list (suc p) (end_at cat (listing cat tab) p)

-- they are shown as the hits from k on, and the place is on a cell of p's run
pub record Went (cat tab list : Bytes) (p k : ℕ) (before : Bytes) (r : Onward) (after : Bytes) : Type 0 where
  pub hits : r.hits ≡ k + length (found_beneath cat tab list p)
  pub out : after ≡ shown_from k (found_beneath cat tab list p) before
  pub later : p ≤ r.cell.0
  pub inside : suc r.cell.0 ≤ end_at cat (listing cat tab) p
  pub fewer : r.hits ≤ suc r.cell.0
