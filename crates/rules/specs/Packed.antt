-- Packed decimal (R86 to R88): which bytes are a number, and how the values of two stand to each other. Assumes nothing: these are definitions.
use Rattle.std.specs.declared.cmp.Ordering.{Ordering}
use Rattle.std.specs.declared.cmp.Ordering.TheVariants.{Equal, Greater, Less}
use Rattle.std.specs.Prelude.{Bool, true, false, ◌&&◌, ◌||◌, [], ◌∷◌, ℕ, ◌+◌, ◌-◌, ◌*◌, ◌/◌, ◌%◌, ltb, leb, eqb, length}
use Rattle.terms.specs.Choice.{pick}
use Rattle.rules.specs.Block.{Bytes, byte}

-- R87: two digits a byte, each 0 to 9; in the last byte one digit, and a sign, A to F
unfoldable pub is_number : Bytes → Bool
is_number [] = false
is_number (x ∷ []) = leb (x / 16) 9 && leb 10 (x % 16)
is_number (x ∷ y ∷ ys) = elim (leb (x / 16) 9 && leb (x % 16) 9) [ true ↦ is_number (y ∷ ys) | false ↦ false ]

-- the whole number that these digits make behind those of n
unfoldable pub digits_on : ℕ → Bytes → ℕ
digits_on n [] = n
digits_on n (x ∷ []) = 10 * n + x / 16
digits_on n (x ∷ y ∷ ys) = digits_on (100 * n + 10 * (x / 16) + x % 16) (y ∷ ys)

-- the digits as a whole number, without the sign
unfoldable pub magnitude : Bytes → ℕ
magnitude b = digits_on 0 b

-- R87: the last half byte; B and D are minus
abbrev pub sign : Bytes → ℕ
sign b = byte b (length b - 1) % 16

unfoldable pub is_minus : Bytes → Bool
is_minus b = eqb (sign b) 0xB || eqb (sign b) 0xD

-- a value is what it has above zero less what it has below zero; one of the two is 0, and both are for either zero
unfoldable pub above : Bytes → ℕ
above b = pick (is_minus b) 0 (magnitude b)

unfoldable pub below : Bytes → ℕ
below b = pick (is_minus b) (magnitude b) 0

unfoldable pub number_order : ℕ → ℕ → Ordering
number_order n m = pick (ltb n m) Less (pick (eqb n m) Equal Greater)

-- R88: how above a - below a stands to above b - below b, as whole numbers
unfoldable pub packed_order : Bytes → Bytes → Ordering
packed_order a b = number_order (above a + below b) (above b + below a)
