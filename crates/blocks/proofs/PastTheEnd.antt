-- Past the end of a block there is nothing, which reads as 0. Assumes nothing.
use mathlib.Core.Path.{◌≡◌, sym}
use Prim.Native.Nat.{ℕ, suc, ◌≤◌}
use native.Mathlib.Omega.{arith}
use lib.ListN.{length, get_or-eq_default}
use Rattle.rules.specs.Block.{Bytes, byte, word}

pub byte_past : (b : Bytes) (i : ℕ) → length b ≤ i → 0 ≡ byte b i
byte_past b i h = sym (get_or-eq_default b 0 {n = i} h)

pub word-past : (b : Bytes) (i : ℕ) → length b ≤ i → 0 ≡ word b i
word-past b i h = omega (arith, byte_past b i h, byte_past b (suc i) (omega arith))
