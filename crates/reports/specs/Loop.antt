-- What a report asks of the loop that it runs. Assumes nothing: these are definitions.
use Rattle.std.specs.Prelude.{◌≡◌, ◌++◌, ℕ, length}
use denote.Ref.{Bor, MutBor}
use Rattle.rules.specs.Block.{Bytes, byte}
use Rattle.report_loops.specs.Plain.{picked}
use Rattle.reports.specs.Given.{GivenBoth}
use Rattle.reports.specs.Shown.{shown_from}

-- it may run on whatever is given
abbrev pub Runs : (Bor Bytes → Bor Bytes → Bor Bytes → Bor Bytes → MutBor Bytes → Type 0) → Type 0
Runs pre =
    (cat tab one two : Bor Bytes) (out : MutBor Bytes) → GivenBoth cat.now tab.now one.now two.now (byte tab.now 5) → pre cat tab one two out

-- it counts the cells that are picked, and shows as many of them as there is room for
abbrev pub ShowsPicked : (Bor Bytes → Bor Bytes → Bor Bytes → Bor Bytes → MutBor Bytes → ℕ → MutBor Bytes → Type 0) → Type 0
ShowsPicked post =
    (cat tab one two : Bor Bytes) (out : MutBor Bytes) (n : ℕ) (after : MutBor Bytes)
    → GivenBoth cat.now tab.now one.now two.now (byte tab.now 5) → post cat tab one two out n after
    → (n ≡ length (picked cat.now tab.now (one.now ++ two.now)))
    × (after.now ≡ shown_from 0 (picked cat.now tab.now (one.now ++ two.now)) out.now)
