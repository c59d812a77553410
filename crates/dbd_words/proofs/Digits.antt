-- A number: its digits one after the other, and its value as far as a byte can hold it (R75). Assumes nothing.
use mathlib.Core.Path.{◌≡◌, refl, ap, sym, ◌∙◌}
use mathlib.Core.Bool.{true, false}
use mathlib.Core.List.{[], ◌∷◌}
use Prim.Native.Nat.{ℕ, min, ◌+◌, ◌-◌, ◌*◌, ◌<◌, ◌≤◌}
use native.Mathlib.Omega.{arith}
use Rattle.std.specs.List.{list_all}
use lib.ListN.{length, drop}
use borrow.Author.Tests.{lt-ltb, le-ltb}
use Rattle.forest.specs.Forest.{inside, outside, side}
use Rattle.forest.specs.Good.{on, off, is}
use Rattle.rules.specs.Block.{Bytes, byte, every}
use Rattle.rules.proofs.Every.{every_in, every-out}
use Rattle.statements.specs.Words.{is_digit, is_number, value_from}
use Rattle.statements.proofs.Words.{clash, every-head}
use Rattle.dbd_words.specs.Capped.{capped}
use Rattle.dbd_words.proofs.Left.{left_at, none_left}

module _ (w : Bytes) (i : ℕ) where
  pub digits-next : i < length w → is_digit (byte w i) ≡ true → every is_digit (drop (i + 1) w) ≡ every is_digit (drop i w)
  digits-next h e = sym (ap (every is_digit) (left_at w i h) ∙ every_in is_digit (byte w i) (drop (i + 1) w) e)

pub number_none : (w : Bytes) → length w ≡ 0 → is_number w ≡ false
unfolding is_number
number_none [] h = refl
number_none (b ∷ bs) h = absurd (omega arith)

every-all : (w : Bytes) → list_all is_digit w ≡ every is_digit w
unfolding every
every-all [] = refl
every-all (b ∷ bs) = elim (is (is_digit b)) [
  | on e ↦ rw (e, every_in is_digit b bs e) (every-all bs)
  | off e ↦ rw (e, every-out is_digit b bs e)
]

number-cons : (b : ℕ) (bs : Bytes) → is_number (b ∷ bs) ≡ every is_digit (b ∷ bs)
unfolding is_number
number-cons b bs = elim (is (is_digit b)) [
  | on e ↦ rw (e, every_in is_digit b bs e)
  | off e ↦ rw (e, every-out is_digit b bs e)
]

pub number_all : (w : Bytes) → 0 < length w → list_all is_digit w ≡ is_number w
number_all [] h = absurd (omega arith)
number_all (b ∷ bs) h = every-all (b ∷ bs) ∙ sym (number-cons b bs)

pub number_digits : (w : Bytes) → is_number w ≡ true → every is_digit w ≡ true
unfolding is_number
number_digits [] e = clash e
number_digits (b ∷ bs) e = sym (number-cons b bs) ∙ e

pub digit_at : (w : Bytes) (i : ℕ) → i < length w → every is_digit (drop i w) ≡ true → is_digit (byte w i) ≡ true
digit_at w i h e = every-head is_digit (byte w i) (drop (i + 1) w) (sym (ap (every is_digit) (left_at w i h)) ∙ e)

-- a number that is capped
pub capped-few : (n : ℕ) → n ≤ 255 → capped n ≡ n
unfolding capped
capped-few n h = rw (le-ltb 255 n h)

pub capped-many : (n : ℕ) → 255 < n → capped n ≡ 255
unfolding capped
capped-many n h = rw (lt-ltb 255 n h)

pub capped_least : (n : ℕ) → capped n ≡ min n 255
capped_least n = elim (side 255 n) [
  | inside l ↦ omega (arith, capped-many n l)
  | outside l ↦ omega (arith, capped-few n l)
]

capped-most : (n : ℕ) → capped n ≤ 255
capped-most n = elim (side 255 n) [
  | inside l ↦ omega (arith, capped-many n l)
  | outside l ↦ omega (arith, capped-few n l)
]

pub capped-low : (m n : ℕ) → m ≡ capped n → m ≤ 255
capped-low m n e = omega (arith, capped-most n)

value-cons : (n b : ℕ) (bs : Bytes) → value_from n (b ∷ bs) ≡ value_from (10 * n + (b - 0x30)) bs
unfolding value_from
value-cons n b bs = refl

value-most : (n : ℕ) (w : Bytes) → 255 ≤ n → capped (value_from n w) ≡ 255
unfolding value_from
value-most n [] h = elim (side 255 n) [
  | inside l ↦ capped-many n l
  | outside l ↦ omega (arith, capped-few n l)
]
value-most n (b ∷ bs) h = value-most (10 * n + (b - 0x30)) bs (omega arith)

-- whether a number is capped before the digits behind it are read or after them is the same
value-capped : (n : ℕ) (w : Bytes) → capped (value_from (capped n) w) ≡ capped (value_from n w)
value-capped n w = elim (side 255 n) [
  | inside l ↦ ap (λ (m : ℕ). capped (value_from m w)) (capped-many n l) ∙ value-most 255 w (omega arith) ∙ sym (value-most n w (omega arith))
  | outside l ↦ ap (λ (m : ℕ). capped (value_from m w)) (capped-few n l)
]

pub value-next : (w : Bytes) (n m i : ℕ) → i < length w → m ≡ capped (10 * n + (byte w i - 0x30))
    → capped (value_from m (drop (i + 1) w)) ≡ capped (value_from n (drop i w))
value-next w n m i h e =
    ap (λ (k : ℕ). capped (value_from k (drop (i + 1) w))) e
    ∙ value-capped (10 * n + (byte w i - 0x30)) (drop (i + 1) w)
    ∙ ap capped (sym (ap (value_from n) (left_at w i h) ∙ value-cons n (byte w i) (drop (i + 1) w)))

pub value-end : (w : Bytes) (n i : ℕ) → length w ≤ i → n ≤ 255 → n ≡ capped (value_from n (drop i w))
unfolding value_from
value-end w n i h l = rw (none_left w i h) (sym (capped-few n l))
