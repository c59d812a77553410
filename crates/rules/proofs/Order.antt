-- The order of values of one length: what twin order, field tests and insert rest on. Assumes nothing.
use Rattle.std.specs.declared.cmp.Ordering.{Ordering}
use Rattle.std.specs.declared.cmp.Ordering.TheVariants.{Equal, Greater, Less}
use mathlib.Core.Path.{◌≡◌, refl, ap, sym, ◌∙◌}
use mathlib.Core.List.{[], ◌∷◌}
use Prim.Native.Nat.{ℕ, ◌<◌, ◌≤◌}
use native.Mathlib.Omega.{arith}
use lib.ListN.{length}
use borrow.Author.Tests.{lt-ltb, le-ltb, eq-eqb, ne_eqb}
use Rattle.forest.specs.Forest.{inside, outside, side}
use Rattle.rules.specs.Block.{Bytes}
use Rattle.rules.specs.Order.{order}

-- the order on values of one length: what K5 has to keep
abbrev pub turned : Ordering → Ordering
turned Less = Greater
turned Equal = Equal
turned Greater = Less

pub order-on : (x y : ℕ) (xs ys : Bytes) → x ≡ y → order (x ∷ xs) (y ∷ ys) ≡ order xs ys
unfolding order
order-on x y xs ys e = rw (order, eq-eqb x y e)

pub order-less : (x y : ℕ) (xs ys : Bytes) → x < y → order (x ∷ xs) (y ∷ ys) ≡ Less
unfolding order
order-less x y xs ys l = rw (order, ne_eqb x y (λ e. omega arith), lt-ltb x y l)

pub order-more : (x y : ℕ) (xs ys : Bytes) → y < x → order (x ∷ xs) (y ∷ ys) ≡ Greater
unfolding order
order-more x y xs ys l = rw (order, ne_eqb x y (λ e. omega arith), le-ltb x y (omega arith))

-- LAW 26: a value is equal to itself
pub order-self : (xs : Bytes) → order xs xs ≡ Equal
unfolding order
order-self [] = refl
order-self (x ∷ xs) = order-on x x xs xs refl ∙ order-self xs

-- LAW 27: turned round
pub order-turned : (xs ys : Bytes) → length xs ≡ length ys → order ys xs ≡ turned (order xs ys)
unfolding order
order-turned [] [] e = refl
order-turned [] (y ∷ ys) e = absurd (omega arith)
order-turned (x ∷ xs) [] e = absurd (omega arith)
order-turned (x ∷ xs) (y ∷ ys) e = elim (side x y) [
  | inside l ↦ order-more y x ys xs l ∙ sym (ap turned (order-less x y xs ys l))
  | outside l ↦ elim (side y x) [
    | inside m ↦ order-less y x ys xs m ∙ sym (ap turned (order-more x y xs ys m))
    | outside m ↦
        let z : x ≡ y = omega arith in
        order-on y x ys xs (sym z) ∙ order-turned xs ys (omega arith) ∙ sym (ap turned (order-on x y xs ys z))
  ]
]

abbrev rank : Ordering → ℕ
rank Less = 0
rank Equal = 1
rank Greater = 2

unequal-less : Less ≡ Equal → ⊥
unequal-less e = let z : ◌≡◌ {A = ℕ} 0 1 = ap rank e in omega arith

unequal-more : Greater ≡ Equal → ⊥
unequal-more e = let z : ◌≡◌ {A = ℕ} 2 1 = ap rank e in omega arith

-- LAW 28: equal means the same bytes
pub order-equal : (xs ys : Bytes) → length xs ≡ length ys → order xs ys ≡ Equal → xs ≡ ys
unfolding order
order-equal [] [] e h = refl
order-equal [] (y ∷ ys) e h = absurd (omega arith)
order-equal (x ∷ xs) [] e h = absurd (omega arith)
order-equal (x ∷ xs) (y ∷ ys) e h = elim (side x y) [
  | inside l ↦ absurd (unequal-less (sym (order-less x y xs ys l) ∙ h))
  | outside l ↦ elim (side y x) [
    | inside m ↦ absurd (unequal-more (sym (order-more x y xs ys m) ∙ h))
    | outside m ↦
        let z : x ≡ y = omega arith in
        rw (z, order-equal xs ys (omega arith) (sym (order-on x y xs ys z) ∙ h))
  ]
]

greater-not : Less ≡ Greater → ⊥
greater-not e = let z : ◌≡◌ {A = ℕ} 0 2 = ap rank e in omega arith

-- what the first bytes say, where one value is smaller: they are smaller, or the same and the rest is smaller
smaller-first : (x y : ℕ) (xs ys : Bytes) → order (x ∷ xs) (y ∷ ys) ≡ Less → y ≤ x → (x ≡ y) × (order xs ys ≡ Less)
smaller-first x y xs ys e l = elim (side y x) [
  | inside m ↦ absurd (greater-not (sym e ∙ order-more x y xs ys m))
  | outside m ↦ (let z : x ≡ y = omega arith in (z, sym (order-on x y xs ys z) ∙ e))
]

-- LAW 29: transitive, whatever the lengths
pub order-transitive : (xs ys zs : Bytes) → order xs ys ≡ Less → order ys zs ≡ Less → order xs zs ≡ Less
unfolding order
order-transitive [] ys zs h k = absurd (unequal-less (sym h))
order-transitive (x ∷ xs) [] zs h k = absurd (unequal-less (sym h))
order-transitive (x ∷ xs) (y ∷ ys) [] h k = absurd (unequal-less (sym k))
order-transitive (x ∷ xs) (y ∷ ys) (z ∷ zs) h k = elim (side x z) [
  | inside l ↦ order-less x z xs zs l
  | outside l ↦ elim (side x y) [
    | inside m ↦ absurd (let q = smaller-first y z ys zs k (omega arith) in omega (arith, q.0))
    | outside m ↦
        let p = smaller-first x y xs ys h m in
        let q = smaller-first y z ys zs k (omega (arith, p.0)) in
        order-on x z xs zs (p.0 ∙ q.0) ∙ order-transitive xs ys zs p.1 q.1
  ]
]
