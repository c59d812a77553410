-- The position's block after a call: left as it was, or written. Assumes nothing.
use mathlib.Core.Path.{◌≡◌}
use Prim.Native.Nat.{ℕ, ◌<◌, ◌≤◌}
use native.Mathlib.Omega.{arith}
use borrow.Author.Tests.{le-leb, lt-leb}
use Rattle.terms.specs.declared.Answer.{Answer}
use Rattle.terms.specs.Statuses.{number}
use Rattle.rules.specs.Block.{Bytes}
use Rattle.rules.specs.Position.{position_bytes}
use Rattle.rules.specs.Outcome.{block_after}

module _ (b : Bytes) (a : Answer) (n : ℕ) (e : n ≡ number a.status) where
  pub block-kept : 20 ≤ n → b ≡ block_after b a
  unfolding block_after
  block-kept h = let l : 20 ≤ number a.status = omega arith in rw (le-leb 20 (number a.status) l)

  pub block-put : n < 20 → (out : Bytes) → out ≡ position_bytes a.position → out ≡ block_after b a
  unfolding block_after
  block-put h out f = let l : number a.status < 20 = omega arith in rw (lt-leb 20 (number a.status) l) f
