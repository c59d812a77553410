use native.Mathlib.Omega.{arith}
use mathlib.Core.Path.{◌∙◌}
use Prim.Native.Nat.{ℕ}
use Rattle.update.proofs.Tables.{used-inside, replace-end, replace-is}
use Rattle.update.proofs.edits.replace_cell_sound.Goals as goal

pub start_of-start-requires : goal.start_of-start-requires
start_of-start-requires c = used-inside c.requires.sound
    _ (omega (arith, c.requires.used))

pub slice_bounds-put-end : goal.slice_bounds-put-end
slice_bounds-put-end c = omega (
  arith,
  replace-end
      c.requires
      c.code_at-t.result c.code_at-t.ensures
      c.wide-long.result c.start_of-start.result
      (c.wide-long.ensures.0 ∙ c.data_length.ensures) c.start_of-start.ensures.0,
)

pub returns : goal.returns
returns c =
    replace-is c.requires c.code_at-t.result c.code_at-t.ensures c.wide-long.result c.start_of-start.result
    (c.wide-long.ensures.0 ∙ c.data_length.ensures) c.start_of-start.ensures.0 (λ (i : ℕ). (c.slice_known-1.given i).fits)
    c.put.new.tail c.put.ensures
