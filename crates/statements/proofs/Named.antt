-- A name with its 8 bytes and the name before its spaces (R75, R79, R82): each gives back the other. Assumes nothing.
use mathlib.Core.Path.{◌≡◌, refl, ap, sym, ◌∙◌}
use mathlib.Core.Bool.{Bool, true, false}
use mathlib.Core.List.{[], ◌∷◌, ◌++◌}
use Prim.Native.Nat.{ℕ, zero, suc, ◌+◌, ◌-◌, ◌≤◌}
use native.Mathlib.Omega.{arith}
use lib.Dec.{eqb}
use borrow.Author.Tests.{eqb-true, leb-true, eq-eqb}
use lib.ListN.{length, drop, replicate, length-append, length-drop, length-replicate}
use lib.Seq.{drop-append_seam}
use Rattle.forest.specs.Good.{on, off, is}
use Rattle.rules.specs.Block.{Bytes, every}
use Rattle.rules.proofs.Joined.{three}
use Rattle.statements.specs.Words.{is_digit, is_letter, in_word, is_name, filled, trimmed}
use Rattle.statements.specs.Dbd.{good_name}
use Rattle.statements.proofs.Words.{clash, every_in, every-head, every-tail}

-- one byte of a name
trim-on : (b : ℕ) (bs : Bytes) → eqb b 0x20 ≡ false → trimmed (b ∷ bs) ≡ b ∷ trimmed bs
unfolding trimmed
trim-on b bs h = rw (trimmed, h)

trim-off : (b : ℕ) (bs : Bytes) → eqb b 0x20 ≡ true → trimmed (b ∷ bs) ≡ []
unfolding trimmed
trim-off b bs h = rw (trimmed, h)

-- what was trimmed stands in front
trim-split : (n : Bytes) → trimmed n ++ drop (length (trimmed n)) n ≡ n
unfolding trimmed
trim-split [] = refl
trim-split (b ∷ bs) = elim (is (eqb b 0x20)) [
  | on h ↦ rw (trim-off b bs h)
  | off h ↦ rw (trim-on b bs h) (ap (◌∷◌ b) (trim-split bs))
]

abbrev is_space : ℕ → Bool
is_space b = eqb b 0x20

spaces-are : (xs : Bytes) → every is_space xs ≡ true → xs ≡ replicate (length xs) 0x20
spaces-are [] e = refl
spaces-are (x ∷ xs) e =
    let z : x ≡ 0x20 = eqb-true x 0x20 (every-head is_space x xs e) in
    rw z (ap (◌∷◌ 0x20) (spaces-are xs (every-tail is_space x xs e)))

are-spaces : (k : ℕ) → every is_space (replicate k 0x20) ≡ true
unfolding every
are-spaces zero = refl
are-spaces (suc k) = are-spaces k

trim-spaces : (k : ℕ) → trimmed (replicate k 0x20) ≡ []
unfolding trimmed
trim-spaces zero = refl
trim-spaces (suc k) = refl

-- R82: a good name in its parts
name-parts : (n : Bytes) → good_name n ≡ true → (length n ≡ 8) × (is_name (trimmed n) ≡ true) × (every is_space (drop (length (trimmed n)) n) ≡ true)
unfolding good_name
name-parts n g =
    let p = three _ _ _ g in
    (eqb-true (length n) 8 p.0, p.1, p.2)

pub name-long : (n : Bytes) → good_name n ≡ true → length n ≡ 8
name-long n g = (name-parts n g).0

pub name-trimmed : (n : Bytes) → good_name n ≡ true → is_name (trimmed n) ≡ true
name-trimmed n g = (name-parts n g).1

pub filled-trimmed : (n : Bytes) → good_name n ≡ true → filled (trimmed n) ≡ n
unfolding filled
filled-trimmed n g =
    let p = name-parts n g in
    let w : Bytes = trimmed n in
    let s : Bytes = drop (length (trimmed n)) n in
    let l : length s ≡ 8 - length w = length-drop (length w) n ∙ ap (λ (x : ℕ). x - length w) p.0 in
    ap (λ (x : ℕ). w ++ replicate x 0x20) (sym l) ∙ ap (λ (x : Bytes). w ++ x) (sym (spaces-are s p.2)) ∙ trim-split n

-- a byte of a word is no space
word-no-space : (b : ℕ) → in_word b ≡ true → eqb b 0x20 ≡ false
unfolding in_word is_letter is_digit
word-no-space b e = elim (is (eqb b 0x20)) [
  | on h ↦ (let z : b ≡ 0x20 = eqb-true b 0x20 h in clash (sym (ap in_word z) ∙ e))
  | off h ↦ h
]

trim-word : (w : Bytes) (k : ℕ) → every in_word w ≡ true → trimmed (w ++ replicate k 0x20) ≡ w
trim-word [] k e = trim-spaces k
trim-word (b ∷ w) k e =
    trim-on b (w ++ replicate k 0x20) (word-no-space b (every-head in_word b w e)) ∙ ap (◌∷◌ b) (trim-word w k (every-tail in_word b w e))

letter-in : (b : ℕ) → is_letter b ≡ true → in_word b ≡ true
unfolding in_word
letter-in b e = rw e

-- a name in its parts
pub name-word : (w : Bytes) → is_name w ≡ true → (every in_word w ≡ true) × (length w ≤ 8)
unfolding is_name
name-word [] e = clash e
name-word (b ∷ bs) e =
    let p = three _ _ _ e in
    let l : length bs ≤ 7 = leb-true (length bs) 7 p.1 in
    (every_in in_word b bs (letter-in b p.0) ∙ p.2, omega arith)

pub trimmed-filled : (w : Bytes) → is_name w ≡ true → trimmed (filled w) ≡ w
unfolding filled
trimmed-filled w e = trim-word w (8 - length w) (name-word w e).0

pub length-filled : (w : Bytes) → is_name w ≡ true → length (filled w) ≡ 8
unfolding filled
length-filled w e =
    length-append w (replicate (8 - length w) 0x20) ∙ ap (λ (x : ℕ). length w + x) (length-replicate (8 - length w) 0x20)
    ∙ (let l = (name-word w e).1 in omega arith)

spaces-behind : (w : Bytes) → every is_space (drop (length w) (filled w)) ≡ true
unfolding filled
spaces-behind w = ap (every is_space) (drop-append_seam w (replicate (8 - length w) 0x20)) ∙ are-spaces (8 - length w)

pub good-filled : (w : Bytes) → is_name w ≡ true → good_name (filled w) ≡ true
unfolding good_name
good-filled w e = rw (trimmed-filled w e, e, spaces-behind w, eq-eqb (length (filled w)) 8 (length-filled w e))
