-- The largest length, one type at a time. Assumes nothing.
use mathlib.Core.Path.{◌≡◌, refl}
use Prim.Native.Nat.{ℕ, zero, suc, max, ◌-◌, ◌<◌}
use native.Mathlib.Omega.{arith}
use borrow.Author.Tests.{lt-ltb, le-ltb}
use Rattle.terms.specs.Names.{code}
use Rattle.forest.specs.Forest.{inside, outside, side}
use Rattle.rules.specs.Block.{Bytes}
use Rattle.rules.specs.Catalogue.{length_of, largest}

-- the greater of what the types before type k have and of what it has itself
pub largest_next : (cat : Bytes) (k : ℕ) → 0 < k → max (largest cat (k - 1)) (length_of cat (code k)) ≡ largest cat k
unfolding largest
largest_next cat zero h = absurd (omega arith)
largest_next cat (suc k) h =
    let z : suc k - 1 ≡ k = omega arith in
    rw z (elim (side (largest cat k) (length_of cat (code (suc k)))) [
      | inside l ↦ rw (largest, lt-ltb (largest cat k) (length_of cat (code (suc k))) l) (omega arith)
      | outside l ↦ rw (largest, le-ltb (largest cat k) (length_of cat (code (suc k))) l) (omega arith)
    ])

pub largest_none : (cat : Bytes) → 0 ≡ largest cat 0
unfolding largest
largest_none cat = refl
