use lib.ListN.{length-take, length-drop}
use native.Mathlib.Omega.{arith}
use mathlib.Core.Path.{◌∙◌}
use Prim.Native.Nat.{ℕ}
use Rattle.update.proofs.Tables.{new-inside, insert-end, insert-fits, insert-is}
use Rattle.update.proofs.edits.insert_cell_sound.Goals as goal

pub start_of-start-requires : goal.start_of-start-requires
start_of-start-requires c = new-inside c.requires _
    (omega (arith, c.requires.place))

pub start_of-end-requires : goal.start_of-end-requires
start_of-end-requires c = new-inside c.requires _ (omega (arith, c.count-n.ensures.0))

pub slice_bounds-shift_up-count : goal.slice_bounds-shift_up-count
slice_bounds-shift_up-count c = omega (
  arith,
  insert-end
      c.requires
      c.count-n.result c.start_of-start.result
      c.start_of-end.result c.count-n.ensures.0
      c.start_of-start.ensures.0 c.start_of-end.ensures.0,
)

pub slice_bounds-shift_up-start : goal.slice_bounds-shift_up-start
slice_bounds-shift_up-start c = omega (
  arith,
  insert-end
      c.requires
      c.count-n.result c.start_of-start.result
      c.start_of-end.result c.count-n.ensures.0
      c.start_of-start.ensures.0 c.start_of-end.ensures.0,
)

pub shift_up-requires : goal.shift_up-requires
shift_up-requires c = simp (length-take, length-drop)
    (omega (
      arith,
      insert-end c.requires c.count-n.result
          c.start_of-start.result c.start_of-end.result
          c.count-n.ensures.0
          c.start_of-start.ensures.0 c.start_of-end.ensures.0,
    ))

pub slice_bounds-write_cell-end : goal.slice_bounds-write_cell-end
slice_bounds-write_cell-end c = omega (
  arith,
  insert-end
      c.requires c.count-n.result
      c.start_of-start.result
      c.start_of-end.result
      c.count-n.ensures.0
      c.start_of-start.ensures.0
      c.start_of-end.ensures.0,
)

pub write_cell-requires : goal.write_cell-requires
write_cell-requires c = simp (length-take, length-drop)
    (omega (
      arith,
      insert-end c.requires
          c.count-n.result
          c.start_of-start.result
          c.start_of-end.result
          c.count-n.ensures.0 c.start_of-start.ensures.0
          c.start_of-end.ensures.0,
      insert-fits
          c.requires c.wide-long.result (c.wide-long.ensures.0
          ∙ c.data_length.ensures),
      c.tab-1.given,
    ))

pub returns : goal.returns
returns c =
    insert-is c.requires c.count-n.result c.start_of-start.result c.start_of-end.result c.count-n.ensures.0
    c.start_of-start.ensures.0 c.start_of-end.ensures.0 (λ (i : ℕ). (c.slice_known-1.given i).fits) c.wide-long.result
    c.shift_up.new.tail c.write_cell.new.cell c.set_count.new.tab (c.wide-long.ensures.0 ∙ c.data_length.ensures)
    c.shift_up.ensures c.write_cell.ensures c.set_count.ensures
