-- Rows of bytes and of cells: zeros, the front of a block, what holds of each one. Assumes nothing.
use mathlib.Core.Path.{◌≡◌, refl, ap, sym, ◌∙◌}
use mathlib.Core.Bool.{Bool, true, false}
use mathlib.Core.List.{List, [], ◌∷◌, ◌++◌, map}
use Prim.Native.Nat.{ℕ, zero, suc, ◌+◌, ◌<◌, ◌≤◌}
use native.Mathlib.Omega.{arith}
use lib.Dec.{eqb}
use lib.ListN.{length, get_or, take, drop, replicate}
use lib.Seq.{drop-cons, take-nil, get_or-drop}
use borrow.Author.Tests.{eqb-true}
use Rattle.terms.specs.Choice.{pick}
use Rattle.forest.specs.Good.{on, off, is}
use Rattle.forest.specs.Numbers.{range}
use Rattle.rules.specs.Block.{Bytes, byte, every, zeros}
use Rattle.rules.proofs.Every.{every_in, every-out}
use Rattle.encoding.specs.Determined.{IsBytes, All}

-- a block of which each byte is zero
pub zeros-all : (b : Bytes) → zeros b ≡ true → b ≡ replicate (length b) 0
unfolding zeros
zeros-all [] e = refl
zeros-all (x ∷ b) e = elim (is (eqb x 0)) [
  | on h ↦
      let z : x ≡ 0 = eqb-true x 0 h in
      let i : b ≡ replicate (length b) 0 = zeros-all b (sym (every_in (λ y. eqb y 0) x b h) ∙ e) in
      ap (λ (y : ℕ). y ∷ b) z ∙ ap (◌∷◌ 0) i
  | off h ↦ absurd (let z : false ≡ true = sym (every-out (λ y. eqb y 0) x b h) ∙ e in let y : ◌≡◌ {A = ℕ} 0 1 = ap (λ (c : Bool). pick c 1 0) z in omega arith)
]

-- a test that each number of a range passes
pub every_of : (p : ℕ → Bool) (k n : ℕ) → ((i : ℕ) → k ≤ i → i < k + n → p i ≡ true) → every p (range k n) ≡ true
unfolding every
every_of p k zero h = refl
every_of p k (suc n) h = every_in p k (range (suc k) n) (h k (omega arith) (omega arith)) ∙ every_of p (suc k) n (λ i a b. h i (omega arith) (omega arith))

-- a test that whatever has P passes, over a row of which each one has P
pub every-all : {A : Type 0} (P : A → Type 0) (p : A → Bool) → ((x : A) → P x → p x ≡ true) → (xs : List A) → All P xs → every p xs ≡ true
unfolding every
every-all P p h [] a = refl
every-all P p h (x ∷ xs) a = every_in p x xs (h x a.0) ∙ every-all P p h xs a.1

-- the n bytes from byte k on, one by one
pub front : (b : Bytes) (k n : ℕ) → k + n ≤ length b → drop k b ≡ map (byte b) (range k n) ++ drop (k + n) b
front b k zero l = let z : k ≡ k + 0 = omega arith in ap (λ (i : ℕ). drop i b) z
front b k (suc n) l =
    let z : suc k + n ≡ k + suc n = omega arith in
    drop-cons b k 0 (omega arith) ∙ ap (◌∷◌ (byte b k)) (front b (suc k) n (omega arith) ∙ ap (λ (i : ℕ). map (byte b) (range (suc k) n) ++ drop i b) z)

-- parts of a slice, and slices put together, are slices
pub bytes-none : IsBytes []
bytes-none i = omega arith

pub bytes-cons : (x : ℕ) (b : Bytes) → x < 256 → IsBytes b → IsBytes (x ∷ b)
bytes-cons x b h g zero = h
bytes-cons x b h g (suc i) = g i

pub bytes-all : (b : Bytes) → All (λ (x : ℕ). x < 256) b → IsBytes b
bytes-all [] a = bytes-none
bytes-all (x ∷ b) a = bytes-cons x b a.0 (bytes-all b a.1)

pub bytes_take : (n : ℕ) (b : Bytes) → IsBytes b → IsBytes (take n b)
bytes_take zero b h = bytes-none
bytes_take (suc n) [] h = bytes-none
bytes_take (suc n) (x ∷ b) h = bytes-cons x (take n b) (h 0) (bytes_take n b (λ i. h (suc i)))

pub bytes_drop : (n : ℕ) (b : Bytes) → IsBytes b → IsBytes (drop n b)
bytes_drop n b h i = rw (get_or-drop n b i 0) (h (n + i))

pub bytes-append : (a b : Bytes) → IsBytes a → IsBytes b → IsBytes (a ++ b)
bytes-append [] b h g = g
bytes-append (x ∷ a) b h g = bytes-cons x (a ++ b) (h 0) (bytes-append a b (λ i. h (suc i)) g)

pub bytes-zeros : (n : ℕ) → IsBytes (replicate n 0)
bytes-zeros zero = bytes-none
bytes-zeros (suc n) = bytes-cons 0 (replicate n 0) (omega arith) (bytes-zeros n)

-- parts of parts
module _ {A : Type 0} where
  pub drop-take : (i k : ℕ) (xs : List A) → drop i (take (i + k) xs) ≡ take k (drop i xs)
  drop-take zero k xs = let z : 0 + k ≡ k = omega arith in rw z
  drop-take (suc i) k [] = let z : suc i + k ≡ suc (i + k) = omega arith in rw z (sym (take-nil k))
  drop-take (suc i) k (x ∷ xs) = let z : suc i + k ≡ suc (i + k) = omega arith in rw z (drop-take i k xs)

  pub drop-row : (i k : ℕ) (x : A) → drop i (replicate (i + k) x) ≡ replicate k x
  drop-row zero k x = let z : 0 + k ≡ k = omega arith in rw z
  drop-row (suc i) k x = let z : suc i + k ≡ suc (i + k) = omega arith in rw z (drop-row i k x)

-- what holds of each one
module _ {A : Type 0} (P : A → Type 0) where
  pub all_take : (n : ℕ) (xs : List A) → All P xs → All P (take n xs)
  all_take zero xs a = tt
  all_take (suc n) [] a = tt
  all_take (suc n) (x ∷ xs) a = (a.0, all_take n xs a.1)

  pub all_drop : (n : ℕ) (xs : List A) → All P xs → All P (drop n xs)
  all_drop zero xs a = a
  all_drop (suc n) [] a = tt
  all_drop (suc n) (x ∷ xs) a = all_drop n xs a.1

  pub all_append : (xs ys : List A) → All P xs → All P ys → All P (xs ++ ys)
  all_append [] ys a b = b
  all_append (x ∷ xs) ys a b = (a.0, all_append xs ys a.1 b)

  pub all-at : (d : A) (xs : List A) (i : ℕ) → All P xs → i < length xs → P (get_or xs i d)
  all-at d [] i a l = absurd (omega arith)
  all-at d (x ∷ xs) zero a l = a.0
  all-at d (x ∷ xs) (suc i) a l = all-at d xs i a.1 (omega arith)

  pub all_of : (d : A) (xs : List A) → ((i : ℕ) → i < length xs → P (get_or xs i d)) → All P xs
  all_of d [] h = tt
  all_of d (x ∷ xs) h = (h 0 (omega arith), all_of d xs (λ i l. h (suc i) (omega arith)))
