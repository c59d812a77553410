use Rattle.cells.proofs.runs.+end_from.Given as goal

abbrev pub decreases-end_from : goal.decreases-end_from
decreases-end_from l = l.left
