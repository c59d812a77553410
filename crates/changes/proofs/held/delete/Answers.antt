use Rattle.cells.proofs.Ancestry.{sound-known}
use mathlib.Core.Path.{◌∙◌}
use native.Mathlib.Omega.{arith}
use Rattle.rules.specs.Block.{Bytes}
use Rattle.changes.proofs.Changed.{held-cell, run-bounds, delete-ready, delete-done}
use Rattle.changes.proofs.Told.{told-made}
use Rattle.changes.proofs.held.delete.Goals as goal

pub code_at-t-requires : goal.code_at-t-requires
code_at-t-requires c = (c.requires.sound.sized, held-cell c.requires c.cell-c.ensures)

pub run_end-e-requires : goal.run_end-e-requires
run_end-e-requires c = (c.requires.sound, held-cell c.requires c.cell-c.ensures)

pub overflow_sub-n : goal.overflow_sub-n
overflow_sub-n c = omega (
  arith,
  (run-bounds c.requires
      c.cell-c.ensures
      c.code_at-t.ensures c.run_end-e.ensures).0,
)

pub remove_cells_sound-requires : goal.remove_cells_sound-requires
remove_cells_sound-requires c =
    delete-ready c.requires c.cell-c.ensures c.code_at-t.ensures c.run_end-e.ensures

pub after_delete-requires : goal.after_delete-requires
after_delete-requires c = omega (
  arith,
  run-bounds
      c.requires
      c.cell-c.ensures
      c.code_at-t.ensures
      c.run_end-e.ensures,
)

pub told-requires : goal.told-requires
told-requires c =
    (c.requires.sound.catalogue, rw c.code_at-t.ensures (sound-known c.requires.sound _ (held-cell c.requires c.cell-c.ensures)))

pub returns : goal.returns
returns c = (λ (area : Bytes). told-made _ area _ _ _ c.told.ensures c.after_delete.ensures
    c.remove_cells_sound.ensures ∙ delete-done c.requires c.cell-c.ensures c.code_at-t.ensures c.run_end-e.ensures area)
