-- The parts of a result (R72), the letters of a status number, and the block of 8 bytes that tells a result. Assumes nothing: these are definitions.
use Rattle.std.specs.Prelude.{List, [], ◌∷◌, ◌++◌, ℕ, ◌/◌, ◌%◌, eqb}
use Rattle.terms.specs.Choice.{pick}
use Rattle.terms.specs.Paper.{StatusRow, printed_statuses}
use Rattle.rules.specs.Block.{Bytes, word_bytes}

-- a byte each; what was removed, or shown by a report, stands above them
abbrev pub status_part : ℕ → ℕ
status_part r = r % 256

abbrev pub type_part : ℕ → ℕ
type_part r = r / 256 % 256

abbrev pub level_part : ℕ → ℕ
level_part r = r / 65536 % 256

abbrev pub length_part : ℕ → ℕ
length_part r = r / 16777216 % 256

abbrev pub removed_part : ℕ → ℕ
removed_part r = r / 4294967296 % 65536

-- the letters that the table prints beside a number; two question marks beside a number that it has not
unfoldable pub letters_among : List StatusRow → ℕ → Bytes
letters_among [] n = 0x3F ∷ 0x3F ∷ []
letters_among (r ∷ rs) n = pick (eqb n r.number) r.letters (letters_among rs n)

unfoldable pub letters_of : ℕ → Bytes
letters_of n = letters_among printed_statuses n

-- as a DL/I program expects them: spaces for blank
unfoldable pub told_letters : ℕ → Bytes
told_letters n = pick (eqb n 0) (0x20 ∷ 0x20 ∷ []) (letters_of n)

unfoldable pub told_of : ℕ → Bytes
told_of r = told_letters (status_part r) ++ status_part r ∷ type_part r ∷ level_part r ∷ length_part r ∷ word_bytes (removed_part r)
