use lib.ListN.{length-take, length-drop}
use native.Mathlib.Omega.{arith}
use mathlib.Core.Path.{refl}
use Prim.Native.Nat.{ℕ}
use Rattle.update.proofs.Tables.{used-inside, remove-end, remove-is}
use Rattle.update.proofs.edits.remove_cells_sound.Goals as goal

pub start_of-start-requires : goal.start_of-start-requires
start_of-start-requires c = used-inside c.requires.sound _
    (omega (
      arith,
      c.requires.order,
      c.requires.used,
    ))

pub start_of-requires : goal.start_of-requires
start_of-requires c =
    used-inside c.requires.sound _ c.requires.used

pub overflow_sub-gap : goal.overflow_sub-gap
overflow_sub-gap c = omega (
  arith,
  remove-end c.requires c.count-n.result
      c.start_of-start.result c.start_of.result _
      c.count-n.ensures.0 c.start_of-start.ensures.0
      c.start_of.ensures.0 refl,
)

pub overflow_sub-freed : goal.overflow_sub-freed
overflow_sub-freed c = omega (
  arith,
  remove-end c.requires c.count-n.result
      c.start_of-start.result c.start_of.result c.start_of-end.result
      c.count-n.ensures.0
      c.start_of-start.ensures.0 c.start_of.ensures.0
      c.start_of-end.ensures.0,
)

pub slice_bounds-shift_down-count : goal.slice_bounds-shift_down-count
slice_bounds-shift_down-count c = omega (
  arith,
  remove-end
      c.requires
      c.count-n.result
      c.start_of-start.result c.start_of.result c.start_of-end.result
      c.count-n.ensures.0
      c.start_of-start.ensures.0 c.start_of.ensures.0
      c.start_of-end.ensures.0,
)

pub slice_bounds-shift_down-start : goal.slice_bounds-shift_down-start
slice_bounds-shift_down-start c = omega (
  arith,
  remove-end
      c.requires
      c.count-n.result
      c.start_of-start.result c.start_of.result c.start_of-end.result
      c.count-n.ensures.0
      c.start_of-start.ensures.0 c.start_of.ensures.0
      c.start_of-end.ensures.0,
)

pub shift_down-requires : goal.shift_down-requires
shift_down-requires c = simp (length-take, length-drop)
    (omega (
      arith,
      remove-end c.requires c.count-n.result
          c.start_of-start.result c.start_of.result
          c.start_of-end.result c.count-n.ensures.0 c.start_of-start.ensures.0
          c.start_of.ensures.0 c.start_of-end.ensures.0,
    ))

pub returns : goal.returns
returns c =
    remove-is c.requires c.count-n.result c.start_of-start.result c.start_of.result c.start_of-end.result c.count-n.ensures.0
    c.start_of-start.ensures.0 c.start_of.ensures.0 c.start_of-end.ensures.0 (λ (i : ℕ). (c.slice_known-1.given i).fits)
    c.shift_down.new.tail c.clear.new.tail c.set_count.new.tab c.shift_down.ensures c.clear.ensures
    c.set_count.ensures
