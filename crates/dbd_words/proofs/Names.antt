-- What a word is, by its length and its first byte (R75). Assumes nothing.
use mathlib.Core.Path.{◌≡◌, refl}
use mathlib.Core.Bool.{true, false}
use mathlib.Core.List.{[], ◌∷◌}
use Prim.Native.Nat.{ℕ, ◌<◌, ◌≤◌}
use native.Mathlib.Omega.{arith}
use lib.Dec.{leb}
use lib.ListN.{length}
use borrow.Author.Tests.{le-leb, lt-leb}
use Rattle.forest.specs.Good.{on, off, is}
use Rattle.rules.specs.Block.{Bytes, byte, every}
use Rattle.statements.specs.Words.{is_letter, in_word, is_name}
use Rattle.statements.proofs.Words.{every-tail}

pub name_none : (w : Bytes) → length w ≡ 0 → false ≡ is_name w
unfolding is_name
name_none [] h = refl
name_none (b ∷ bs) h = absurd (omega arith)

name-cut : (b : ℕ) (bs : Bytes) → leb (length bs) 7 ≡ false → false ≡ is_name (b ∷ bs)
unfolding is_name
name-cut b bs e = elim (is (is_letter b)) [
  | on h ↦ rw (h, e)
  | off h ↦ rw h
]

name-first : (b : ℕ) (bs : Bytes) → leb (length bs) 7 ≡ true → every in_word bs ≡ true → is_letter b ≡ is_name (b ∷ bs)
unfolding is_name
name-first b bs e f = elim (is (is_letter b)) [
  | on h ↦ rw (h, e, f)
  | off h ↦ rw h
]

pub name_long : (w : Bytes) → 8 < length w → false ≡ is_name w
name_long [] h = absurd (omega arith)
name_long (b ∷ bs) h = name-cut b bs (lt-leb (length bs) 7 (omega arith))

pub name_is : (w : Bytes) → (length w ≡ 0 → ⊥) → length w ≤ 8 → every in_word w ≡ true → is_letter (byte w 0) ≡ is_name w
name_is [] n h e = absurd (n refl)
name_is (b ∷ bs) n h e = name-first b bs (le-leb (length bs) 7 (omega arith)) (every-tail in_word b bs e)
