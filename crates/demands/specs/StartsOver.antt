-- R63: get-next after GB starts over.
--
-- Whatever call answered GB, wherever it stood: the next n + 1 get-nexts with the empty list show every cell once, in order, and then GB again.
--
-- Assumes nothing: this is the statement; the proof is in proofs/.
use Rattle.std.specs.Prelude.{◌≡◌, [], ℕ, suc}
use Rattle.terms.specs.declared.Position.{Position}
use Rattle.terms.specs.declared.Status.TheVariants.{GB}
use Rattle.forest.specs.Numbers.{range}
use Rattle.rules.specs.Block.{Bytes}
use Rattle.rules.specs.Table.{count}
use Rattle.rules.specs.Outcome.{Store}
use Rattle.report_loops.specs.Loops.{calling, handed_on, loop}
use Rattle.report_loops.specs.Demand3.{Reports}

-- asked of a store
abbrev pub StartsOver : Store → Type 0
StartsOver store = (cat tab : Bytes) (pos : Position) (c : ℕ) (list area : Bytes) → (store cat tab pos c list area).answer.status ≡ GB
    → Reports cat tab (loop (calling store cat 2 []) (suc (count tab)) (handed_on (store cat tab pos c list area))) (range 0 (count tab)) GB
