-- Which bytes are a number: each byte before the last has two digits, the last one digit and a sign. Assumes nothing.
use mathlib.Core.Path.{◌≡◌, refl, ap, sym, ◌∙◌}
use mathlib.Core.Bool.{Bool, true, false, ◌&&◌, and-true, and_assoc}
use mathlib.Core.List.{[], ◌∷◌, ◌++◌}
use Rattle.std.specs.List.{list_all}
use Prim.Native.Nat.{ℕ, ◌/◌, ◌%◌, ◌≤◌}
use native.Mathlib.Omega.{arith}
use lib.Dec.{leb}
use lib.ListN.{length}
use borrow.Author.Tests.{leb-true}
use Rattle.forest.specs.Good.{on, off, is}
use Rattle.rules.specs.Block.{Bytes}
use Rattle.rules.specs.Packed.{is_number}
use Rattle.rules.proofs.Joined.{two}
use Rattle.values.specs.Lent.{two_digits}

pub none_number : (b : Bytes) → length b ≡ 0 → is_number b ≡ false
unfolding is_number
none_number [] e = refl
none_number (x ∷ xs) e = absurd (omega arith)

-- a number has a byte, that of its sign
pub some_bytes : (b : Bytes) → is_number b ≡ true → length b ≡ 0 → ⊥
some_bytes b h e = let f = none_number b e in let z : ◌≡◌ {A = ℕ} 0 1 = cc in omega arith

-- a byte that another one follows: two digits, and a number behind it
pub pair-digits : (x y : ℕ) (ys : Bytes) → is_number (x ∷ y ∷ ys) ≡ true → (x / 16 ≤ 9) × (x % 16 ≤ 9) × (is_number (y ∷ ys) ≡ true)
unfolding is_number
pair-digits x y ys e = elim (is (leb (x / 16) 9 && leb (x % 16) 9)) [
  | on h ↦
      let d = two (leb (x / 16) 9) (leb (x % 16) 9) h in
      (leb-true (x / 16) 9 d.0, leb-true (x % 16) 9 d.1, rw (is_number, h) at e)
  | off h ↦ (let f : false ≡ true = rw (is_number, h) at e in let z : ◌≡◌ {A = ℕ} 0 1 = cc in absurd (omega arith))
]

pub last-digit : (x : ℕ) → is_number (x ∷ []) ≡ true → x / 16 ≤ 9
unfolding is_number
last-digit x e = leb-true (x / 16) 9 (two (leb (x / 16) 9) (leb 10 (x % 16)) e).0

-- a byte before another one, and what is behind it
pair_number : (x y : ℕ) (ys : Bytes) → is_number (x ∷ y ∷ ys) ≡ (two_digits x && is_number (y ∷ ys))
unfolding is_number
pair_number x y ys = elim (is (two_digits x)) [
  | on h ↦ rw (is_number, h)
  | off h ↦ rw (is_number, h)
]

-- the last byte, and those before it
split : (xs : Bytes) (z : ℕ) → is_number (xs ++ z ∷ []) ≡ (list_all two_digits xs && (leb (z / 16) 9 && leb 10 (z % 16)))
unfolding is_number
split [] z = refl
split (x ∷ []) z = pair_number x z [] ∙ rw (and-true (two_digits x))
split (x ∷ y ∷ ys) z =
    pair_number x y (ys ++ z ∷ [])
    ∙ ap (λ (q : Bool). two_digits x && q) (split (y ∷ ys) z)
    ∙ sym (and_assoc (two_digits x) (list_all two_digits (y ∷ ys)) (leb (z / 16) 9 && leb 10 (z % 16)))

-- LAW: two digits in each byte but the last, and there one digit and a sign
pub number_split : (b xs : Bytes) (z : ℕ) → b ≡ xs ++ z ∷ []
    → is_number b ≡ (list_all two_digits xs && (leb (z / 16) 9 && leb 10 (z % 16)))
number_split b xs z e = ap is_number e ∙ split xs z
