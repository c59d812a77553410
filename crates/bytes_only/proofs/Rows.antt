-- What holds of each of a row; and a test with its two branches. Assumes nothing.
use mathlib.Core.Path.{◌≡◌, refl, ap, sym, ◌∙◌}
use mathlib.Core.Bool.{Bool, true, false, ◌&&◌, and-false}
use mathlib.Core.List.{List, [], ◌∷◌, map}
use Rattle.rules.specs.Block.{every}
use Rattle.rules.proofs.Every.{every_in, every-cons}
use Rattle.rules.proofs.Joined.{two}

-- two pairs of tests, each one with the other's
pub crossed : (a b c d : Bool) → ((a && b) && (c && d)) ≡ ((a && c) && (b && d))
crossed true true c d = refl
crossed true false c d = sym (and-false c)
crossed false b c d = refl

pub every-none : {A : Type 0} (p : A → Bool) → every p [] ≡ true
unfolding every
every-none p = refl

-- the first of a row that passes, and the others
pub every-parts : {A : Type 0} (p : A → Bool) (x : A) (xs : List A) → every p (x ∷ xs) ≡ true → (p x ≡ true) × (every p xs ≡ true)
every-parts p x xs e = two (p x) (every p xs) (sym (every-cons p x xs) ∙ e)

-- two tests on each of a row are the two tests of the row
pub every-both : {A : Type 0} (p q r : A → Bool) → ((x : A) → p x ≡ (q x && r x)) → (xs : List A) → every p xs ≡ (every q xs && every r xs)
every-both p q r h [] = rw (every-none p, every-none q, every-none r)
every-both p q r h (x ∷ xs) =
    rw (every-cons p x xs, every-cons q x xs, every-cons r x xs, h x, every-both p q r h xs) (crossed (q x) (r x) (every q xs) (every r xs))

-- what is made of each of a row passes, where whatever is made does
pub every_made : {A B : Type 0} (p : B → Bool) (f : A → B) → ((x : A) → p (f x) ≡ true) → (xs : List A) → every p (map f xs) ≡ true
every_made p f h [] = every-none p
every_made p f h (x ∷ xs) = every_in p (f x) (map f xs) (h x) ∙ every_made p f h xs

-- two tests that are one, between branches that are
abbrev branch : {A : Type 0} → Bool → A → A → A
branch b x y = elim b [ true ↦ x | false ↦ y ]

either : {A : Type 0} {x x' y y' : A} → x ≡ x' → y ≡ y' → (b : Bool) → branch b x y ≡ branch b x' y'
either e f true = e
either e f false = f

pub branches : {A : Type 0} {x x' y y' : A} {a b : Bool} → a ≡ b → x ≡ x' → y ≡ y' → branch a x y ≡ branch b x' y'
branches {x} {y} {b} h e f = ap (λ (c : Bool). branch c x y) h ∙ either e f b
