use Rattle.std.proofs.Common.{◌≡◌, ◌+◌, ◌-◌}
use mathlib.Core.List.{append_assoc}
use native.Mathlib.Omega.{arith}
use lib.Seq.{drop-drop}
use Rattle.blocks.proofs.moves.carry.Goals as goal

pub returns : goal.returns
returns c =
    let f : c.args.from + 1024 - c.args.from ≡ 1024 = omega arith in
    let t : c.args.to + 1024 - c.args.to ≡ 1024 = omega arith in
    simp (c.copy_from_slice-2.ensures.after, c.copy_from_slice.ensures.after, f, t, append_assoc, drop-drop)
