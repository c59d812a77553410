-- DEMAND 3.
--
-- Of two lists, each of at least one argument, that joined are one list without fault: get-next on the first until GE, with get-next-within-parent
-- on the second until GE under each cell found, shows the same cells with the same data, in the same order, each once, as get-next alone on the joined
-- list until GE. Both equal what is picked by reading every cell from first to last and testing it with its ancestors.
-- And R66: when a loop of get-next has come to its end.
--
-- Assumes nothing: this is the statement; the proof is in proofs/.
use Rattle.std.specs.Prelude.{◌≡◌, true, List, [], ◌∷◌, ◌++◌, map, ℕ, suc, ◌<◌, ◌≤◌, length, Some}
use Rattle.terms.specs.declared.Position.{Position}
use Rattle.terms.specs.declared.Status.{Status}
use Rattle.terms.specs.declared.Status.TheVariants.{Blank, GB, GE}
use Rattle.rules.specs.Block.{Bytes}
use Rattle.rules.specs.Catalogue.{good_catalogue}
use Rattle.rules.specs.Cells.{segment, shown_bytes}
use Rattle.rules.specs.Table.{count, cell_size, listing, good_table}
use Rattle.rules.specs.Position.{good_position}
use Rattle.rules.specs.Arguments.{list_read}
use Rattle.rules.specs.Outcome.{Outcome, Store}
use Rattle.report_loops.specs.Loops.{State, calling, start, Seen, Shown, loop, nested_loop}
use Rattle.report_loops.specs.Plain.{picked}

-- the two reports of a store, from the fresh position: GN is call 2, GNP call 3
module _ (call : ℕ → Bytes → State → Outcome) (tab area : Bytes) where
  -- get-next alone, in at most k calls
  abbrev pub single : ℕ → Bytes → Shown
  single k list = loop (call 2 list) k (start tab area)

  -- get-next, and get-next-within-parent under each cell found, in at most k calls each
  abbrev pub nested : ℕ → Bytes → Bytes → Shown
  nested k list₁ list₂ = nested_loop (call 2 list₁) (call 3 list₂) k k (start tab area)

-- what is shown of the plain reading
module _ (cat tab : Bytes) where
  -- a cell's number and its data
  abbrev pub seen_at : ℕ → Seen
  seen_at i = record { cell = i; bytes = shown_bytes cat (segment (listing cat tab) i) }

  -- a report has shown these cells, and ended with this status
  pub record Reports (shown : Shown) (cells : List ℕ) (status : Status) : Type 0 where
    pub shows : shown.seen ≡ map seen_at cells
    pub ends : shown.last ≡ Some status

-- each number is greater than those before it: none stands twice
abbrev pub AllAbove : ℕ → List ℕ → Type 0
AllAbove i [] = Unit {0}
AllAbove i (x ∷ xs) = (i < x) × AllAbove i xs

abbrev pub Ascending : List ℕ → Type 0
Ascending [] = Unit {0}
Ascending (x ∷ xs) = AllAbove x xs × Ascending xs

-- the status that ends a loop: GB (R50) or GE (R51)
abbrev pub no_more : Bytes → Status
no_more [] = GB
no_more (x ∷ xs) = GE

-- input that no check refuses, with an area that is long enough (R56)
pub record Accepted (cat tab list area : Bytes) : Type 0 where
  pub catalogue : good_catalogue cat ≡ true
  pub table : good_table cat tab ≡ true
  pub read : (list_read cat list).fault ≡ Blank
  pub long : cell_size cat ≤ suc (length area)

-- a list without fault, cut in two between two of its arguments
pub record Cut (cat list₁ list₂ : Bytes) : Type 0 where
  pub first : 0 < length list₁
  pub second : 0 < length list₂
  pub between : (list_read cat list₁).fault ≡ Blank

-- what is asked of a store
pub record Demand3 (store : Store) : Type 0 where
  -- the two reports and the plain reading are one, where each loop may make more calls than there are cells
  pub agree : (cat tab list₁ list₂ area : Bytes) → Accepted cat tab (list₁ ++ list₂) area → Cut cat list₁ list₂ → (k : ℕ) → count tab < k
      → Reports cat tab (nested (calling store cat) tab area k list₁ list₂) (picked cat tab (list₁ ++ list₂)) GE
      × Reports cat tab (single (calling store cat) tab area k (list₁ ++ list₂)) (picked cat tab (list₁ ++ list₂)) GE
      × Ascending (picked cat tab (list₁ ++ list₂))
  -- with any list, the empty one too, get-next alone shows what is picked with it
  pub read : (cat tab list area : Bytes) → Accepted cat tab list area → (k : ℕ) → count tab < k
      → Reports cat tab (single (calling store cat) tab area k list) (picked cat tab list) (no_more list)
  -- from any good position, call n + 1 is the last
  pub end : (cat tab list area : Bytes) (pos : Position) → Accepted cat tab list area → good_position cat (listing cat tab) pos ≡ true
      → (loop (calling store cat 2 list) (suc (count tab)) (record { table = tab; position = pos; area = area })).last ≡ Some (no_more list)
