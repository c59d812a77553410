use native.Mathlib.Omega.{arith}
use mathlib.Core.Path.{◌≡◌, ap, ◌∙◌}
use Prim.Native.Nat.{◌+◌, ◌-◌}
use lib.ListN.{length, drop}
use lib.Seq.{paste}
use Rattle.blocks.proofs.Moved.{down-more, down-end}
use Rattle.blocks.proofs.moves.shift_down.Goals as goal

pub loop-i-preserved : goal.loop-i-preserved
loop-i-preserved c = let l = c.loop-i in let a = c.args.tail.now in (
  omega arith,
  omega arith,
  omega arith,
  c.carry.ensures ∙ ap
      (λ t. paste t l.i (drop (c.args.gap + l.i) t) 1024) l.invariant.3 ∙ down-more c.args.gap 0 l.i 1024 a
      (omega arith) (omega arith),
)

pub returns : goal.returns
returns c =
    let t = c.loop-i.tail in
    let z : length t - (c.args.gap + c.loop-i.i) ≡ length t - c.args.gap - c.loop-i.i = omega arith in
    down-end c.args.gap c.loop-i.i c.args.tail.now t c.copy_within.new.self (omega arith) (omega arith) c.loop-i.invariant.3
    (rw z at c.copy_within.ensures.after)
