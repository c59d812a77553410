-- What the tests of one name of 8 bytes say: a word that is a name, and spaces behind it (R82). Assumes nothing.
use mathlib.Core.Path.{◌≡◌, refl, sym, ◌∙◌}
use mathlib.Core.Bool.{true, false, ◌&&◌, and-false}
use mathlib.Core.List.{[], ◌∷◌}
use Prim.Native.Nat.{ℕ, ◌+◌, ◌-◌, ◌*◌, ◌≤◌}
use native.Mathlib.Omega.{arith}
use lib.Dec.{leb, eqb}
use lib.ListN.{length, take, drop, length-drop}
use lib.Seq.{take_all, length-take-le}
use borrow.Rule.Slice.PartMut.{mid_of}
use Rattle.forest.specs.Good.{on, off, is}
use Rattle.rules.specs.Block.{Bytes, part, every}
use Rattle.rules.proofs.Every.{every_in}
use Rattle.statements.specs.Words.{is_letter, in_word, is_name, trimmed}
use Rattle.statements.specs.Dbd.{name_at, good_name}

letter-in : (b : ℕ) → is_letter b ≡ true → in_word b ≡ true
unfolding in_word
letter-in b e = rw e

-- a name is a word
pub no_word : (w : Bytes) → every in_word w ≡ false → is_name w ≡ false
unfolding is_name
no_word [] e = refl
no_word (b ∷ bs) e = elim (is (is_letter b)) [
  | on h ↦ (let g : every in_word bs ≡ false = sym (every_in in_word b bs (letter-in b h)) ∙ e in rw (h, g) (and-false (leb (length bs) 7)))
  | off h ↦ rw h
]

-- the word of the name ends at byte `end`
pub good_name-tests : (n : Bytes) (end : ℕ) → end ≤ length n → part n 0 end ≡ trimmed n
    → good_name n ≡ (eqb (length n) 8 && is_name (take end n) && every (λ b. eqb b 0x20) (mid_of end (length n - end) n))
unfolding good_name
good_name-tests n end inside word =
    let z : take (length n - end) (drop end n) ≡ drop end n = take_all (length n - end) (drop end n) (simp length-drop (omega arith)) in
    rw (← word, length-take-le end n inside, z)

-- the name at place i, which the code has from byte `at` to byte `end`
pub name-at : (names : Bytes) (i at end : ℕ) → at ≡ 8 + 8 * i → end ≡ at + 8 → good_name (mid_of at (end - at) names) ≡ good_name (name_at names i)
unfolding name_at
name-at names i at end start long = let z : end - at ≡ 8 = omega arith in rw (z, start)
