use native.Mathlib.Nat.{sub-zero}
use native.Mathlib.Omega.{arith}
use mathlib.Core.Path.{ap, ◌∙◌}
use Prim.Native.Nat.{◌+◌, ◌-◌}
use lib.ListN.{length, drop}
use lib.Seq.{paste}
use Rattle.blocks.proofs.Moved.{up_more, up-end}
use Rattle.blocks.proofs.moves.shift_up.Goals as goal

pub loop-i-preserved : goal.loop-i-preserved
loop-i-preserved c = let l = c.loop-i in let a = c.args.tail.now in let j = l.i - 1024 in (
  omega arith,
  omega arith,
  omega arith,
  c.carry.ensures ∙ ap
      (λ t. paste t (c.args.gap + j) (drop j t) 1024) l.invariant.3 ∙ up_more c.args.gap (length a - c.args.gap) l.i j
      1024 a (omega arith) (omega arith) (omega arith),
)

pub returns : goal.returns
returns c = let l = c.loop-i in let a = c.args.tail.now in
    (simp sub-zero at c.copy_within.ensures.after) ∙ ap (λ t. paste t c.args.gap t l.i) l.invariant.3 ∙ up-end c.args.gap
    (length a - c.args.gap) l.i a (omega arith) (omega arith)
