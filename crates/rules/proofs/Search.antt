-- The search, step by step, as code that counts the cells left takes it. Assumes nothing.
use Rattle.std.specs.Prelude.{Some, None}
use mathlib.Core.Path.{◌≡◌, refl}
use mathlib.Core.Bool.{true, false}
use mathlib.Core.List.{List}
use Prim.Native.Nat.{ℕ, zero, suc, ◌-◌, ◌<◌}
use native.Mathlib.Omega.{arith}
use Rattle.terms.specs.Names.{cell}
use Rattle.rules.specs.Block.{Bytes}
use Rattle.rules.specs.Cells.{Segment}
use Rattle.rules.specs.Arguments.{Level}
use Rattle.rules.specs.Matching.{matches, seek}

-- LAW 25: the search, step by step, as code that counts the cells left takes it
module _ (cat : Bytes) (cs : List Segment) (ls : List Level) where
  pub seek-none : (i : ℕ) → seek cat cs ls i 0 ≡ None
  unfolding seek
  seek-none i = refl

  pub seek-here : (i n : ℕ) → 0 < n → matches cat cs ls i ≡ true → seek cat cs ls i n ≡ Some (cell i)
  unfolding seek
  seek-here i zero l e = absurd (omega arith)
  seek-here i (suc n) l e = rw (seek, e)

  pub seek-next : (i n : ℕ) → 0 < n → matches cat cs ls i ≡ false → seek cat cs ls i n ≡ seek cat cs ls (suc i) (n - 1)
  unfolding seek
  seek-next i zero l e = absurd (omega arith)
  seek-next i (suc n) l e = let z : suc n - 1 ≡ n = omega arith in rw (seek, e, z)
