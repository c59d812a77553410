use native.Mathlib.Omega.{arith}
use Rattle.cells.proofs.Data.{cell-inside, data-in, data_of}
use Rattle.cells.proofs.lookup.data_part.Goals as goal

pub start_of-requires : goal.start_of-requires
start_of-requires c = cell-inside c.requires.sized c.args.c.0 c.requires.cell

pub overflow_add-a : goal.overflow_add-a
overflow_add-a c = omega (arith, c.start_of.ensures.0, data-in c.requires)

pub overflow_add-e : goal.overflow_add-e
overflow_add-e c = omega (arith, c.start_of.ensures.0, data-in c.requires)

pub slice_bounds-result-end : goal.slice_bounds-result-end
slice_bounds-result-end c = omega (arith, c.start_of.ensures.0, data-in c.requires)

pub returns : goal.returns
returns c = data_of c.requires c.start_of.result c.start_of.ensures.0
