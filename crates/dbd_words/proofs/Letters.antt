-- One byte: a digit, a blank (R74, R75). Assumes nothing.
use mathlib.Core.Path.{◌≡◌, refl, ap, ◌∙◌}
use mathlib.Core.Bool.{true, false}
use Prim.Native.Nat.{ℕ, ◌<◌, ◌≤◌}
use native.Mathlib.Omega.{arith}
use Rattle.std.proofs.lemmas.Bool.Decides.{nat_tests}
use lib.Dec.{leb, eqb}
use borrow.Author.Tests.{leb-true, eqb-true}
use Rattle.forest.specs.Good.{on, off, is, both_left}
use Rattle.statements.specs.Words.{is_digit, is_letter, in_word, is_blank}

-- what a digit is, for the subtraction
pub digit_low : (b : ℕ) → is_digit b ≡ true → 0x30 ≤ b
unfolding is_digit
digit_low b e = leb-true 0x30 b (both_left (leb 0x30 b) (leb b 0x39) e)

-- a blank is no byte of a word
apart : (b c : ℕ) → in_word c ≡ false → eqb b c ≡ true → in_word b ≡ false
apart b c h e = ap in_word (eqb-true b c e) ∙ h

pub blank-apart : (b : ℕ) → is_blank b ≡ true → in_word b ≡ false
unfolding is_blank in_word is_letter is_digit
blank-apart b e = elim (is (eqb b 0x20)) [
  | on h ↦ apart b 0x20 refl h
  | off h ↦ elim (is (eqb b 0x09)) [
    | on k ↦ apart b 0x09 refl k
    | off k ↦ apart b 0x0D refl (rw (h, k) at e)
  ]
]

-- a sign of a statement, as code gives it: it is no byte of a word, and no blank
pub low-apart : (b : ℕ) → b < 0x30 → in_word b ≡ false
unfolding in_word is_letter is_digit
low-apart b h = grind (arith, nat_tests)

pub high-apart : (b : ℕ) → 0x39 < b → b < 0x41 → in_word b ≡ false
unfolding in_word is_letter is_digit
high-apart b h l = grind (arith, nat_tests)

pub no_blank : (b : ℕ) → 0x20 < b → is_blank b ≡ false
unfolding is_blank
no_blank b h = grind (arith, nat_tests)

pub ruleset signs = (low-apart, high-apart, no_blank)
