-- Bytes that go over others in a block: what they make at their place, and what they leave elsewhere. Assumes nothing.
use mathlib.Core.Path.{◌≡◌, refl, ap, ◌∙◌}
use mathlib.Core.List.{[], ◌∷◌, ◌++◌, append_assoc}
use Prim.Native.Nat.{ℕ, suc, ◌+◌, ◌<◌, ◌≤◌}
use native.Mathlib.Omega.{arith}
use lib.ListN.{length, take, drop, set}
use lib.Seq.{sets, sets-eq, length-take-le, drop_at, take-append_seam, get_or-set_other}
use Rattle.rules.specs.Block.{Bytes, byte, part}

pub made : (b : Bytes) (at : ℕ) (xs : Bytes) → at + length xs ≤ length b → part (sets b at xs) at (length xs) ≡ xs
made b at xs h =
    ap (λ (t : Bytes). part t at (length xs)) (sets-eq xs b at h ∙ append_assoc (take at b) xs (drop (at + length xs) b))
    ∙ ap (take (length xs)) (drop_at (take at b) (xs ++ drop (at + length xs) b) at (length-take-le at b (omega arith)))
    ∙ take-append_seam xs (drop (at + length xs) b)

-- the bytes before them
pub kept-before : (xs b : Bytes) (at j : ℕ) → j < at → byte (sets b at xs) j ≡ byte b j
kept-before [] b at j h = refl
kept-before (x ∷ xs) b at j h = kept-before xs (set b at x) (suc at) j (omega arith) ∙ get_or-set_other b at j x 0 (λ z. omega arith)

-- and those behind them
pub kept-behind : (xs b : Bytes) (at j : ℕ) → at + length xs ≤ j → byte (sets b at xs) j ≡ byte b j
kept-behind [] b at j h = refl
kept-behind (x ∷ xs) b at j h = kept-behind xs (set b at x) (suc at) j (omega arith) ∙ get_or-set_other b at j x 0 (λ z. omega arith)
