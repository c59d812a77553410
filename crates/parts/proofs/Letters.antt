-- The letters of a status number, looked up in the table, and an array of two letters put before other bytes. Assumes nothing.
use mathlib.Core.Path.{◌≡◌, refl, ap, sym, ◌∙◌}
use mathlib.Core.List.{List, [], ◌∷◌, ◌++◌}
use Prim.Native.Nat.{ℕ, ◌/◌, ◌%◌}
use native.Mathlib.Omega.{arith}
use lib.ListN.{length}
use borrow.Author.Tests.{eq-eqb, ne_eqb}
use Rattle.terms.specs.declared.Status.{Status}
use Rattle.terms.specs.declared.Status.TheVariants.{Blank, GA, GK, GB, GE, GP, CX, TX, PX, AD, AC, AJ, AK, AH, AB, DJ, DA, II, FX, PD}
use Rattle.terms.specs.Statuses.{number, letters}
use Rattle.terms.specs.Paper.{StatusRow, printed_statuses}
use Rattle.rules.specs.Block.{Bytes, byte}
use Rattle.parts.specs.Result.{letters_among, status_part, type_part, level_part, length_part, removed_part, letters_of, told_letters, told_of}

-- a status is found by its number
found : (s : Status) → letters s ≡ letters_of (number s)
unfolding letters_of letters_among printed_statuses
found Blank = refl
found GA = refl
found GK = refl
found GB = refl
found GE = refl
found GP = refl
found CX = refl
found TX = refl
found PX = refl
found AD = refl
found AC = refl
found AJ = refl
found AK = refl
found AH = refl
found AB = refl
found DJ = refl
found DA = refl
found II = refl
found FX = refl
found PD = refl

pub letters-of : (s : Status) {n : ℕ} {l : Bytes} → n ≡ number s → l ≡ letters s → l ≡ letters_of n
letters-of s e f = f ∙ found s ∙ ap letters_of (sym e)

-- what is known, with A, where a number is none of these rows'
abbrev pub NoneOf : Type 0 → ℕ → List StatusRow → Type 0
NoneOf A n [] = A
NoneOf A n (r ∷ rs) = NoneOf (A × (n ≡ r.number → ⊥)) n rs

none-among : (A : Type 0) (n : ℕ) (rows : List StatusRow) → NoneOf A n rows → A × (0x3F ∷ 0x3F ∷ [] ≡ letters_among rows n)
unfolding letters_among
none-among A n [] w = (w, refl)
none-among A n (r ∷ rs) w =
    let p = none-among (A × (n ≡ r.number → ⊥)) n rs w in
    (p.0.0, rw (ne_eqb n r.number p.0.1) p.1)

pub letters-none : (n : ℕ) → NoneOf (Unit {0}) n printed_statuses → 0x3F ∷ 0x3F ∷ [] ≡ letters_of n
unfolding letters_of
letters-none n w = (none-among (Unit {0}) n printed_statuses w).1

pub told-blank : (n : ℕ) → n ≡ 0 → 0x20 ∷ 0x20 ∷ [] ≡ told_letters n
unfolding told_letters
told-blank n e = rw (eq-eqb n 0 e)

pub told-other : (n : ℕ) {l : Bytes} → (n ≡ 0 → ⊥) → l ≡ letters_of n → l ≡ told_letters n
unfolding told_letters
told-other n h e = rw (ne_eqb n 0 h) e

-- two bytes of an array, one by one, are the array
pub both : (l rest : Bytes) → length l ≡ 2 → byte l 0 ∷ byte l 1 ∷ rest ≡ l ++ rest
both [] rest h = absurd (omega arith)
both (a ∷ []) rest h = absurd (omega arith)
both (a ∷ b ∷ []) rest h = refl
both (a ∷ b ∷ c ∷ l) rest h = absurd (omega arith)

-- the block that tells a result, part by part
pub told-whole : (r status type level long removed : ℕ) (two : Bytes) → length two ≡ 2 → status ≡ status_part r → two ≡ told_letters status
    → type ≡ type_part r → level ≡ level_part r → long ≡ length_part r → removed ≡ removed_part r
    → byte two 0 ∷ byte two 1 ∷ status ∷ type ∷ level ∷ long ∷ removed / 256 ∷ removed % 256 ∷ [] ≡ told_of r
unfolding told_of
told-whole r status type level long removed two h e f g i j k = both two _ h ∙ rw (f, e, g, i, j, k)
