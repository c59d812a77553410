use mathlib.Core.Path.{◌≡◌}
use mathlib.Core.Bool.{true}
use Prim.Native.Nat.{◌≤◌}
use lib.ListN.{length, drop}
use Rattle.rules.specs.Block.{every}
use Rattle.statements.specs.Words.{is_digit, value_from, value}
use Rattle.dbd_words.specs.Capped.{capped}
use Rattle.dbd_words.proofs.words.number.Given as goal

abbrev pub invariant-loop-digit : goal.invariant-loop-digit
invariant-loop-digit l = (l.digit-index ≤ length l.word) × (l.n ≤ 255) × (every is_digit (drop l.digit-index l.word) ≡ true) ×
    (capped (value_from l.n (drop l.digit-index l.word)) ≡ capped (value l.word))
