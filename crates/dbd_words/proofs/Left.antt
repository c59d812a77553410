-- What is left of a row of bytes from a place on. Assumes nothing.
use mathlib.Core.Path.{◌≡◌}
use mathlib.Core.List.{[], ◌∷◌}
use Prim.Native.Nat.{ℕ, ◌+◌, ◌<◌, ◌≤◌}
use native.Mathlib.Numerals.{add-one}
use lib.ListN.{length, drop, drop_of_length-le}
use lib.Seq.{drop-cons}
use Rattle.rules.specs.Block.{Bytes, byte}

pub left_at : (b : Bytes) (i : ℕ) → i < length b → drop i b ≡ byte b i ∷ drop (i + 1) b
left_at b i h = rw add-one (drop-cons b i 0 h)

pub none_left : (b : Bytes) (i : ℕ) → length b ≤ i → drop i b ≡ []
none_left b i h = drop_of_length-le b {i = i} h
