-- What one more test says of the types or fields that are left. Assumes nothing.
use mathlib.Core.Path.{◌≡◌, sym}
use mathlib.Core.Bool.{Bool, true, false}
use Prim.Native.Nat.{ℕ, suc, ◌+◌, ◌-◌, ◌<◌, ◌≤◌}
use native.Mathlib.Omega.{arith}
use Rattle.forest.specs.Numbers.{range}
use Rattle.rules.specs.Block.{every}
use Rattle.rules.proofs.Every.{every_in, every-out}

-- what is left to test behind number k, up to the last
module _ (p : ℕ → Bool) (k last : ℕ) where
  pub every-next : k < last → p (k + 1) ≡ true → every p (range (k + 1 + 1) (last - (k + 1))) ≡ every p (range (k + 1) (last - k))
  every-next h e =
      let z : last - k ≡ suc (last - (k + 1)) = omega arith in
      let w : k + 1 + 1 ≡ suc (k + 1) = omega arith in
      rw (z, w) (sym (every_in p (k + 1) (range (suc (k + 1)) (last - (k + 1))) e))

  pub every-stop : k < last → p (k + 1) ≡ false → false ≡ every p (range (k + 1) (last - k))
  every-stop h e =
      let z : last - k ≡ suc (last - (k + 1)) = omega arith in
      rw z (sym (every-out p (k + 1) (range (suc (k + 1)) (last - (k + 1))) e))

  pub every-done : last ≤ k → true ≡ every p (range (k + 1) (last - k))
  unfolding every
  every-done h = let z : last - k ≡ 0 = omega arith in rw z
