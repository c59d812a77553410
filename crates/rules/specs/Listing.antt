-- The listing program's output, from the bytes of its two files. Assumes nothing: these are definitions.
use Rattle.std.specs.Prelude.{true, false, not, [], ◌∷◌, ◌++◌, ℕ, zero, suc, ◌+◌, ◌/◌, ◌%◌, ltb, leb, length, take, replicate}
use Rattle.terms.specs.declared.Position.{Position}
use Rattle.terms.specs.declared.Status.{Status}
use Rattle.terms.specs.declared.Status.TheVariants.{CX, TX}
use Rattle.terms.specs.declared.Answer.{Answer}
use Rattle.terms.specs.Choice.{pick}
use Rattle.terms.specs.Statuses.{number, letters}
use Rattle.terms.specs.Moves.{fresh, place_number}
use Rattle.rules.specs.Block.{Bytes}
use Rattle.rules.specs.Catalogue.{good_catalogue}
use Rattle.rules.specs.Table.{count}
use Rattle.rules.specs.Outcome.{outcome}

-- a number in decimal, of at most k digits
unfoldable pub digits : ℕ → ℕ → Bytes
digits zero n = []
digits (suc k) n = elim (ltb n 10) [ true ↦ (0x30 + n) ∷ [] | false ↦ digits k (n / 10) ++ ((0x30 + n % 10) ∷ []) ]

-- cell numbers, types and levels have at most five
unfoldable pub decimal : ℕ → Bytes
decimal n = digits 5 n

unfoldable pub hex_digit : ℕ → ℕ
hex_digit n = pick (ltb n 10) (0x30 + n) (0x37 + n)

-- two hex digits a byte (R67)
unfoldable pub hex : Bytes → Bytes
hex [] = []
hex (b ∷ bs) = hex_digit (b / 16) ∷ hex_digit (b % 16) ∷ hex bs

abbrev pub space : ℕ
space = 0x20

abbrev pub line_end : ℕ
line_end = 0x0A

-- R67: the line of a segment
unfoldable pub cell_line : Answer → Bytes → Bytes
cell_line a area =
    decimal (place_number a.position.place) ++ (space ∷ decimal a.code.0) ++ (space ∷ decimal a.level) ++ (space ∷ letters a.status)
    ++ (space ∷ hex (take a.length area)) ++ (line_end ∷ [])

-- R67: the last line
unfoldable pub last_line : Status → Bytes
last_line s = letters s ++ (line_end ∷ [])

-- R67: the lines of at most k calls
unfoldable pub lines_from : ℕ → Bytes → Bytes → Position → Bytes
lines_from zero cat tab pos = []
lines_from (suc k) cat tab pos =
    let o = outcome cat tab pos 2 [] (replicate 120 0) in
    elim (leb 10 (number o.answer.status)) [
      | true ↦ last_line o.answer.status
      | false ↦ cell_line o.answer o.area ++ lines_from k cat tab o.answer.position
    ]

-- R68: the whole output. Call n + 1 is the last.
unfoldable pub listing_text : Bytes → Bytes → Bytes
listing_text cat tab =
    pick (not (good_catalogue cat)) (last_line CX)
    (pick (ltb 65536 (length tab)) (last_line TX)
    (lines_from (suc (count tab)) cat tab fresh))
