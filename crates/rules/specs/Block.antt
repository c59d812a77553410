-- Blocks of bytes (R1). Assumes nothing: these are definitions.
use Rattle.std.specs.Prelude.{Bool, true, false, ◌&&◌, ◌||◌, List, [], ◌∷◌, ℕ, suc, ◌+◌, ◌*◌, ◌/◌, ◌%◌, eqb, get_or, take, drop}

abbrev pub Bytes : Type 0
Bytes = List ℕ

-- byte i; past the end there is nothing, which reads as 0
abbrev pub byte : Bytes → ℕ → ℕ
byte b i = get_or b i 0

-- a 16-bit number at byte i, high byte first; and its two bytes
abbrev pub word : Bytes → ℕ → ℕ
word b i = 256 * byte b i + byte b (suc i)

abbrev pub word_bytes : ℕ → Bytes
word_bytes n = n / 256 ∷ n % 256 ∷ []

-- the n bytes from byte i on
abbrev pub part : Bytes → ℕ → ℕ → Bytes
part b i n = take n (drop i b)

-- each one passes the test
unfoldable pub every : {A : Type 0} → (A → Bool) → List A → Bool
every p [] = true
every p (x ∷ xs) = elim (p x) [ true ↦ every p xs | false ↦ false ]

-- one of them does
unfoldable pub any_of : {A : Type 0} → (A → Bool) → List A → Bool
any_of p [] = false
any_of p (x ∷ xs) = p x || any_of p xs

unfoldable pub zeros : Bytes → Bool
zeros b = every (λ x. eqb x 0) b

-- R2, R10: the mark, H, D and the third letter, then the version
unfoldable pub marked : ℕ → Bytes → Bool
marked letter b = eqb (byte b 0) 0x48 && eqb (byte b 1) 0x44 && eqb (byte b 2) letter && eqb (word b 3) 1

-- two keys are byte for byte the same
unfoldable pub same_bytes : Bytes → Bytes → Bool
same_bytes [] [] = true
same_bytes [] (y ∷ ys) = false
same_bytes (x ∷ xs) [] = false
same_bytes (x ∷ xs) (y ∷ ys) = elim (eqb x y) [ true ↦ same_bytes xs ys | false ↦ false ]
