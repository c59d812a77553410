-- The status of a get with an empty list: from the types' codes and levels, and for a position. Assumes nothing.
use mathlib.Core.Path.{◌≡◌, ap, sym, ◌∙◌}
use mathlib.Core.Bool.{Bool, true, false, not}
use mathlib.Core.List.{List, []}
use Prim.Native.Nat.{ℕ, suc, ◌-◌, ◌<◌}
use native.Mathlib.Omega.{arith}
use borrow.Author.Tests.{lt-ltb, le-ltb, eq-eqb, ne_eqb}
use Rattle.terms.specs.declared.TypeCode.{TypeCode}
use Rattle.terms.specs.declared.Place.{Place}
use Rattle.terms.specs.declared.Place.TheVariants.{On, Before}
use Rattle.terms.specs.declared.Status.TheVariants.{Blank, GA, GK}
use Rattle.terms.specs.Choice.{pick}
use Rattle.terms.specs.Names.{code, same_type}
use Rattle.terms.specs.Moves.{after_place, is_on}
use Rattle.rules.specs.Block.{Bytes}
use Rattle.rules.specs.Catalogue.{parent_of, level, is_type, good_catalogue}
use Rattle.rules.specs.Cells.{Segment, segment, level_at}
use Rattle.rules.specs.Calls.{level_status}
use Rattle.catalogue.proofs.Hierarchy.{type-range, level-child}
use Rattle.gets.specs.Status.{change_status, next_status}

-- t is the type of the segment that was got, u that of the one before
module _ (cat : Bytes) (u t : TypeCode) where
  type-less : level cat t < level cat u → GA ≡ change_status cat u t
  unfolding change_status
  type-less h = rw (lt-ltb (level cat t) (level cat u) h)

  type-more : level cat u < level cat t → Blank ≡ change_status cat u t
  unfolding change_status
  type-more h = rw (le-ltb (level cat t) (level cat u) (omega arith), ne_eqb (level cat t) (level cat u) (λ z. omega arith))

  type-level : level cat t ≡ level cat u → change_status cat u t ≡ pick (not (same_type t u)) GK Blank
  unfolding change_status
  type-level e = rw (le-ltb (level cat t) (level cat u) (omega arith), eq-eqb (level cat t) (level cat u) e)

  type-other : level cat t ≡ level cat u → (t.0 ≡ u.0 → ⊥) → GK ≡ change_status cat u t
  type-other e n = rw (type-level e, ne_eqb t.0 u.0 n)

  pub codes_same : t.0 ≡ u.0 → Blank ≡ change_status cat u t
  codes_same z = rw (type-level (ap (λ (v : ℕ). level cat (code v)) z), eq-eqb t.0 u.0 z)

  module _ (g : good_catalogue cat ≡ true) (p : TypeCode) (above : p ≡ parent_of cat t) (k : is_type cat t ≡ true) where
    above-found : level cat t ≡ suc (level cat p)
    above-found = level-child cat g t (type-range cat t k).0 (type-range cat t k).1 ∙ ap (λ (v : TypeCode). suc (level cat v)) (sym above)

    pub codes-child : p.0 ≡ u.0 → Blank ≡ change_status cat u t
    codes-child z =
        let h : level cat p ≡ level cat u = ap (λ (v : ℕ). level cat (code v)) z in
        type-more (omega (arith, above-found))

    pub codes-sibling : (o : TypeCode) → o ≡ parent_of cat u → is_type cat u ≡ true → (t.0 ≡ u.0 → ⊥) → p.0 ≡ o.0 → GK ≡ change_status cat u t
    codes-sibling o e j n z =
        let a : level cat u ≡ suc (level cat o) =
        level-child cat g u (type-range cat u j).0 (type-range cat u j).1 ∙ ap (λ (v : TypeCode). suc (level cat v)) (sym e) in
        let b : level cat p ≡ level cat o = ap (λ (v : ℕ). level cat (code v)) z in
        type-other (omega (arith, above-found)) n

  module _ (was here : ℕ) (v : was ≡ level cat u) (w : here ≡ level cat t) where
    pub levels-less : here < was → GA ≡ change_status cat u t
    levels-less h = type-less (omega arith)

    pub levels-more : was < here → Blank ≡ change_status cat u t
    levels-more h = type-more (omega arith)

    pub levels-same : (t.0 ≡ u.0 → ⊥) → here ≡ was → GK ≡ change_status cat u t
    levels-same n e = type-other (omega arith) n

-- of cell i of a table
module _ (cat : Bytes) (cs : List Segment) (i : ℕ) (on : Bool) where
  pub status-gap : on ≡ false → Blank ≡ next_status cat cs on i
  status-gap e = rw e

  pub status-on : on ≡ true → (u t : TypeCode) → u ≡ (segment cs (i - 1)).code → t ≡ (segment cs i).code → change_status cat u t ≡ next_status cat cs on i
  unfolding change_status level_at
  status-on e u t x y = rw (e, x, y)

  -- i is the cell after the place
  pub status-is : (q : Place) → on ≡ is_on q → i ≡ after_place q → next_status cat cs on i ≡ level_status cat cs [] q i
  status-is (On c) e f = let z : i - 1 ≡ c.0 = omega arith in rw (e, z)
  status-is (Before c) e f = rw e

pub on-least : (q : Place) (on : Bool) (i : ℕ) → on ≡ is_on q → i ≡ after_place q → on ≡ true → 0 < i
on-least (On c) on i e f h = omega arith
on-least (Before c) on i e f h = let y : ◌≡◌ {A = ℕ} 1 0 = ap (λ (b : Bool). pick b 1 0) (sym h ∙ e) in absurd (omega arith)
