-- A number that a byte can hold. Assumes nothing: a definition.
use Rattle.std.specs.Prelude.{ℕ, ltb}
use Rattle.terms.specs.Choice.{pick}

-- 255 stands for all that are greater: no rule of a catalogue lets a number above 120 pass
unfoldable pub capped : ℕ → ℕ
capped n = pick (ltb 255 n) 255 n
