-- The order of packed numbers is that of whole numbers: a total order up to value, of any bytes; being a number is asked only where code compares bytes
-- instead. Assumes nothing.
use Rattle.std.specs.declared.cmp.Ordering.{Ordering}
use Rattle.std.specs.declared.cmp.Ordering.TheVariants.{Equal, Greater, Less}
use mathlib.Core.Path.{◌≡◌, refl, ap, sym, ◌∙◌}
use Prim.Native.Nat.{ℕ, ◌+◌, ◌<◌}
use native.Mathlib.Omega.{arith}
use borrow.Author.Tests.{lt-ltb, le-ltb, eq-eqb, ne_eqb}
use Rattle.forest.specs.Forest.{inside, outside, side}
use Rattle.rules.specs.Block.{Bytes}
use Rattle.rules.specs.Packed.{above, below, number_order, packed_order}
use Rattle.rules.proofs.Order.{turned}

pub number-less : (n m : ℕ) → n < m → number_order n m ≡ Less
unfolding number_order
number-less n m l = rw (lt-ltb n m l)

pub number_same : (n m : ℕ) → n ≡ m → number_order n m ≡ Equal
unfolding number_order
number_same n m e = rw (le-ltb n m (omega arith), eq-eqb n m e)

pub number_more : (n m : ℕ) → m < n → number_order n m ≡ Greater
unfolding number_order
number_more n m l = rw (le-ltb n m (omega arith), ne_eqb n m (λ e. omega arith))

-- how two numbers stand, as a case that a proof can take apart
pub data Stand (n m : ℕ) : Ordering → Type 0 where
  less : n < m → Stand n m Less
  same : n ≡ m → Stand n m Equal
  more : m < n → Stand n m Greater

pub stand : (n m : ℕ) → Stand n m (number_order n m)
stand n m = elim (side n m) [
  | inside l ↦ rw (number-less n m l) (less l)
  | outside l ↦ elim (side m n) [
    | inside k ↦ rw (number_more n m k) (more k)
    | outside k ↦ (let e : n ≡ m = omega arith in rw (number_same n m e) (same e))
  ]
]

-- what the answer says of the numbers
pub is-less : (n m : ℕ) → number_order n m ≡ Less → n < m
is-less n m e = elim (side n m) [
  | inside l ↦ l
  | outside l ↦ elim (side m n) [
    | inside k ↦ (let z : Greater ≡ Less = sym (number_more n m k) ∙ e in let y : ◌≡◌ {A = ℕ} 0 1 = cc in absurd (omega arith))
    | outside k ↦ (let z : Equal ≡ Less = sym (number_same n m (omega arith)) ∙ e in let y : ◌≡◌ {A = ℕ} 0 1 = cc in absurd (omega arith))
  ]
]

pub is_same : (n m : ℕ) → number_order n m ≡ Equal → n ≡ m
is_same n m e = elim (side n m) [
  | inside l ↦ (let z : Less ≡ Equal = sym (number-less n m l) ∙ e in let y : ◌≡◌ {A = ℕ} 0 1 = cc in absurd (omega arith))
  | outside l ↦ elim (side m n) [
    | inside k ↦ (let z : Greater ≡ Equal = sym (number_more n m k) ∙ e in let y : ◌≡◌ {A = ℕ} 0 1 = cc in absurd (omega arith))
    | outside k ↦ omega arith
  ]
]

-- two pairs of numbers that stand alike
pub number-alike : (n m p q : ℕ) → n + q ≡ p + m → number_order n m ≡ number_order p q
number-alike n m p q e = elim (side n m) [
  | inside l ↦ number-less n m l ∙ sym (number-less p q (omega arith))
  | outside l ↦ elim (side m n) [
    | inside k ↦ number_more n m k ∙ sym (number_more p q (omega arith))
    | outside k ↦ number_same n m (omega arith) ∙ sym (number_same p q (omega arith))
  ]
]

pub number-turned : (n m : ℕ) → number_order m n ≡ turned (number_order n m)
number-turned n m = elim (side n m) [
  | inside l ↦ number_more m n l ∙ sym (ap turned (number-less n m l))
  | outside l ↦ elim (side m n) [
    | inside k ↦ number-less m n k ∙ sym (ap turned (number_more n m k))
    | outside k ↦ number_same m n (omega arith) ∙ sym (ap turned (number_same n m (omega arith)))
  ]
]

-- two packed values are the same: above a - below a is above b - below b
abbrev pub SameValue : Bytes → Bytes → Type 0
SameValue a b = above a + below b ≡ above b + below a

pub packed-self : (a : Bytes) → packed_order a a ≡ Equal
unfolding packed_order
packed-self a = number_same (above a + below a) (above a + below a) refl

-- LAW: turned round
pub packed-turned : (a b : Bytes) → packed_order b a ≡ turned (packed_order a b)
unfolding packed_order
packed-turned a b = number-turned (above a + below b) (above b + below a)

-- LAW: equal exactly where the values are the same
pub packed-equal : (a b : Bytes) → packed_order a b ≡ Equal → SameValue a b
unfolding packed_order
packed-equal a b e = is_same (above a + below b) (above b + below a) e

pub equal-packed : (a b : Bytes) → SameValue a b → packed_order a b ≡ Equal
unfolding packed_order
equal-packed a b e = number_same (above a + below b) (above b + below a) e

-- LAW: transitive
pub packed-transitive : (a b c : Bytes) → packed_order a b ≡ Less → packed_order b c ≡ Less → packed_order a c ≡ Less
unfolding packed_order
packed-transitive a b c e f =
    let l = is-less (above a + below b) (above b + below a) e in
    let m = is-less (above b + below c) (above c + below b) f in
    number-less (above a + below c) (above c + below a) (omega arith)

-- LAW: equal values stand alike to a third
pub packed-left : (a b c : Bytes) → packed_order a b ≡ Equal → packed_order a c ≡ packed_order b c
unfolding packed_order
packed-left a b c e =
    let s = is_same (above a + below b) (above b + below a) e in
    number-alike (above a + below c) (above c + below a) (above b + below c) (above c + below b) (omega arith)

pub packed-right : (a b c : Bytes) → packed_order b c ≡ Equal → packed_order a b ≡ packed_order a c
unfolding packed_order
packed-right a b c e =
    let s = is_same (above b + below c) (above c + below b) e in
    number-alike (above a + below b) (above b + below a) (above a + below c) (above c + below a) (omega arith)
