-- DEMAND 3.
--
-- Two reports on one table agree. Of two lists, each of at least one argument, that joined are one list without fault: get-next on the first until GE, with
-- get-next-within-parent on the second until GE under each cell found, shows the same cells with the same data, in the same order, each once, as get-next alone
-- on the joined list until GE. Both equal what is picked by reading every cell from first to last and testing it with its ancestors. And R66: when a loop of
-- get-next has come to its end.
--
-- The loops are loops of outcomes: each call takes up what the call before it left. Assumes nothing: this is the statement; the proof is in proofs/.
use Rattle.rules.specs.Outcome.{Store}
use Rattle.report_loops.specs.Demand3.{Demand3 as AskedOfLoops}

-- asked of a store
abbrev pub Demand3 : Store → Type 0
Demand3 store = AskedOfLoops store
