-- A text that is written into a buffer. Assumes nothing: these are definitions.
use Rattle.std.specs.Prelude.{◌≡◌, ℕ, ◌+◌, length}
use Rattle.std.proofs.lemmas.List.Edits.{sets}
use Rattle.rules.specs.Block.{Bytes}

-- the buffer with the text from this place on, all else as it was (`written_is` of proofs/Written.antt says it by take and drop)
abbrev pub written : ℕ → Bytes → Bytes → Bytes
written at text out = sets out at text

-- the buffer before and after, and the place behind the text
pub record Wrote (at : ℕ) (text before : Bytes) (next : ℕ) (after : Bytes) : Type 0 where
  pub place : next ≡ at + length text
  pub bytes : after ≡ written at text before
  pub long : length after ≡ length before
