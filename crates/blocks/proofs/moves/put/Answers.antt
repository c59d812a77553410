use Rattle.std.proofs.Common.{rules}
use native.Mathlib.Omega.{arith}
use mathlib.Core.Path.{◌≡◌, refl, ◌∙◌}
use Prim.Native.Nat.{◌+◌, ◌-◌}
use lib.ListN.{length}
use lib.Seq.{take-length}
use Rattle.blocks.proofs.Moved.{lent-more}
use Rattle.blocks.proofs.moves.put.Goals as goal

pub loop-i-preserved : goal.loop-i-preserved
loop-i-preserved c = (
  refl,
  omega arith,
  omega arith,
  omega arith,
  search rules,
  lent-more c.args.from.now c.args.tail.now
      c.loop-i.tail c.hop.new.tail
      c.loop-i.i
      c.loop-i.i 16 (omega arith) (omega arith) (omega arith)
      c.loop-i.invariant.5 c.hop.ensures,
)

pub returns : goal.returns
returns c = let s = c.args.from.now in let a = c.args.tail.now in let e : length s - 16 + 16 ≡ length s = omega arith in
    lent-more s a c.loop-i.tail c.hop-2.new.tail
    c.loop-i.i (length s - 16) 16 (omega arith) (omega arith)
    (omega arith) c.loop-i.invariant.5 c.hop-2.ensures ∙
    simp (e, take-length)
