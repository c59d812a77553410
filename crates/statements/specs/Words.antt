-- Words and signs of a line (R74, R75). Assumes nothing: these are definitions.
use Rattle.std.specs.Prelude.{Bool, true, false, ◌&&◌, ◌||◌, List, [], ◌∷◌, ◌++◌, ℕ, ◌+◌, ◌-◌, ◌*◌, leb, eqb, length, replicate}
use Rattle.rules.specs.Block.{Bytes, every}

-- a word, or a byte that stands for itself
pub data Token : Type 0 where
  word : Bytes → Token
  sign : ℕ → Token

abbrev between : ℕ → ℕ → ℕ → Bool
between a z b = leb a b && leb b z

unfoldable pub is_digit : ℕ → Bool
is_digit b = between 0x30 0x39 b

-- R75: small letters are letters too
unfoldable pub is_letter : ℕ → Bool
is_letter b = between 0x41 0x5A b || between 0x61 0x7A b

unfoldable pub in_word : ℕ → Bool
in_word b = is_letter b || is_digit b

-- R74: a space, a tab or a CR
unfoldable pub is_blank : ℕ → Bool
is_blank b = eqb b 0x20 || eqb b 0x09 || eqb b 0x0D

-- the line begins with a byte of a word
unfoldable pub in_front : Bytes → Bool
in_front [] = false
in_front (b ∷ bs) = in_word b

-- a byte of a word before the tokens of what follows: it joins the word that follows at once, or is a word by itself
unfoldable pub joined : Bool → ℕ → List Token → List Token
joined true b (word w ∷ ts) = word (b ∷ w) ∷ ts
joined true b (sign s ∷ ts) = word (b ∷ []) ∷ sign s ∷ ts
joined true b [] = word (b ∷ []) ∷ []
joined false b ts = word (b ∷ []) ∷ ts

-- R74: a longest row of letters and digits is a word, a blank is nothing, and any other byte is a sign; no statement has one but = , ( and ), so that it
-- makes its line no statement
unfoldable pub tokens : Bytes → List Token
tokens [] = []
tokens (b ∷ bs) =
    elim (in_word b) [
      | true ↦ joined (in_front bs) b (tokens bs)
      | false ↦ elim (is_blank b) [ true ↦ tokens bs | false ↦ sign b ∷ tokens bs ]
    ]

-- R75: what is a name
unfoldable pub is_name : Bytes → Bool
is_name [] = false
is_name (b ∷ bs) = is_letter b && leb (length bs) 7 && every in_word bs

-- R75: what is a number
unfoldable pub is_number : Bytes → Bool
is_number [] = false
is_number (b ∷ bs) = is_digit b && every is_digit bs

-- the whole number that the digits make, behind n
unfoldable pub value_from : ℕ → Bytes → ℕ
value_from n [] = n
value_from n (b ∷ bs) = value_from (10 * n + (b - 0x30)) bs

unfoldable pub value : Bytes → ℕ
value w = value_from 0 w

-- R79: a name with its 8 bytes
unfoldable pub filled : Bytes → Bytes
filled w = w ++ replicate (8 - length w) 0x20

-- the name before its spaces
unfoldable pub trimmed : Bytes → Bytes
trimmed [] = []
trimmed (b ∷ bs) = elim (eqb b 0x20) [ true ↦ [] | false ↦ b ∷ trimmed bs ]

-- the blank that parts two words
unfoldable pub gap : List Token → Bytes
gap [] = []
gap (word w ∷ ts) = 0x20 ∷ []
gap (sign s ∷ ts) = []

-- tokens written, with one space between two words and no other blank
unfoldable pub spell : List Token → Bytes
spell [] = []
spell (word w ∷ ts) = w ++ (gap ts ++ spell ts)
spell (sign s ∷ ts) = s ∷ spell ts
