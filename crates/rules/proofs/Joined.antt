-- Several tests joined by "and" that all hold, taken apart. Assumes nothing.
use mathlib.Core.Path.{◌≡◌}
use mathlib.Core.Bool.{Bool, true, ◌&&◌}
use Rattle.forest.specs.Good.{both_left, both_right}

pub two : (a b : Bool) → (a && b) ≡ true → (a ≡ true) × (b ≡ true)
two a b h = (both_left a b h, both_right a b h)

pub three : (a b c : Bool) → (a && b && c) ≡ true → (a ≡ true) × (b ≡ true) × (c ≡ true)
three a b c h = let p = two (a && b) c h in let q = two a b p.0 in (q.0, q.1, p.1)

pub four : (a b c d : Bool) → (a && b && c && d) ≡ true → (a ≡ true) × (b ≡ true) × (c ≡ true) × (d ≡ true)
four a b c d h = let p = three (a && b) c d h in let q = two a b p.0 in (q.0, q.1, p.1, p.2)

pub six : (a b c d e f : Bool) → (a && b && c && d && e && f) ≡ true → (a ≡ true) × (b ≡ true) × (c ≡ true) × (d ≡ true) × (e ≡ true) × (f ≡ true)
six a b c d e f h = let p = three (a && b && c && d) e f h in let q = four a b c d p.0 in (q.0, q.1, q.2, q.3, p.1, p.2)

pub seven : (a b c d e f g : Bool) → (a && b && c && d && e && f && g) ≡ true
    → (a ≡ true) × (b ≡ true) × (c ≡ true) × (d ≡ true) × (e ≡ true) × (f ≡ true) × (g ≡ true)
seven a b c d e f g h =
    let p = two (a && b && c && d && e && f) g h in
    let q = six a b c d e f p.0 in
    (q.0, q.1, q.2, q.3, q.4, q.5, p.1)
