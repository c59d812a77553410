use native.Mathlib.Omega.{arith}
use Rattle.table_check.proofs.Before.{code_in}
use Rattle.table_check.proofs.readers.code_before.Goals as goal

pub bounds-cells-at : goal.bounds-cells-at
bounds-cells-at c = omega (
  arith,
  code_in c.requires.0
      c.requires.1,
  c.start_before-at.ensures,
)
