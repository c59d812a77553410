-- How a report shows cells (R69): each by its number, 2 bytes (R1), the first one at the front. Assumes nothing: these are definitions.
use Rattle.std.specs.Prelude.{List, [], ◌∷◌, ◌++◌, ℕ, suc, ◌+◌, ◌*◌, ◌/◌, ◌%◌, ltb, length, set}
use Rattle.terms.specs.Choice.{pick}
use Rattle.rules.specs.Block.{Bytes, word_bytes}

-- the bytes of these cells' numbers
unfoldable pub hit_bytes : List ℕ → Bytes
hit_bytes [] = []
hit_bytes (i ∷ is) = word_bytes i ++ hit_bytes is

-- cell i as hit k, where there is room for it
unfoldable pub put_hit : ℕ → ℕ → Bytes → Bytes
put_hit k i out = pick (ltb (2 * k + 1) (length out)) (set (set out (2 * k) (i / 256)) (2 * k + 1) (i % 256)) out

-- these cells as the hits from k on, as many as there is room for
unfoldable pub shown_from : ℕ → List ℕ → Bytes → Bytes
shown_from k [] out = out
shown_from k (i ∷ is) out = shown_from (suc k) is (put_hit k i out)
