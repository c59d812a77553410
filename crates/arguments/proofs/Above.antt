-- The types above a type, in a good catalogue: each above it comes before it, and what is above one above it is above it. Assumes nothing.
use mathlib.Core.Path.{◌≡◌, refl, ap, sym, ◌∙◌}
use mathlib.Core.Bool.{Bool, true, false, ◌||◌}
use mathlib.Core.List.{◌∷◌}
use Prim.Native.Nat.{ℕ, zero, suc, ◌<◌, ◌≤◌}
use native.Mathlib.Omega.{arith}
use lib.Dec.{leb, eqb}
use borrow.Author.Tests.{eq-eqb, ne_eqb, leb-true, eqb-true}
use Rattle.terms.specs.declared.TypeCode.{TypeCode}
use Rattle.terms.specs.Names.{code}
use Rattle.forest.specs.Good.{on, off, is, both_left, both_right}
use Rattle.forest.specs.Numbers.{is_in}
use Rattle.forest.specs.Types as Types
use Rattle.rules.specs.Block.{Bytes}
use Rattle.rules.specs.Catalogue.{types, parent_of, lineage, is_type, type_beneath, good_catalogue}
use Rattle.rules.specs.Arguments.{good_next}
use Rattle.rules.proofs.Catalogue.{par, lineage-le, good-lower}

or_right : (a b : Bool) → (a || b) ≡ true → a ≡ false → b ≡ true
or_right true b e f = let z : ◌≡◌ {A = ℕ} 0 1 = cc in absurd (omega arith)
or_right false b e f = e

or-true : (a b : Bool) → b ≡ true → (a || b) ≡ true
or-true true b e = refl
or-true false b e = e

-- R7: types are numbered from 1
pub type-first : (cat : Bytes) (t : TypeCode) → is_type cat t ≡ true → 1 ≤ t.0
unfolding is_type
type-first cat t h = leb-true 1 t.0 (both_left (leb 1 t.0) (leb t.0 (types cat)) h)

pub type-last : (cat : Bytes) (t : TypeCode) → is_type cat t ≡ true → t.0 ≤ types cat
unfolding is_type
type-last cat t h = leb-true t.0 (types cat) (both_right (leb 1 t.0) (leb t.0 (types cat)) h)

module _ (cat list : Bytes) (before t : TypeCode) (h : good_next cat list before t ≡ true) where
  pub next-type : is_type cat t ≡ true
  unfolding good_next
  next-type = both_left (is_type cat t) (eqb before.0 0 || type_beneath cat t before) h

  pub next-beneath : is_type cat before ≡ true → type_beneath cat t before ≡ true
  unfolding good_next
  next-beneath b = or_right (eqb before.0 0) (type_beneath cat t before) (both_right (is_type cat t) (eqb before.0 0 || type_beneath cat t before) h) (ne_eqb before.0 0 (λ e. omega (arith, type-first cat before b)))

module _ (cat : Bytes) (g : good_catalogue cat ≡ true) where
  above_step : (t : TypeCode) → is_type cat t ≡ true → lineage cat t ≡ t.0 ∷ lineage cat (parent_of cat t)
  unfolding lineage
  above_step t h = Types.lineage-step (par cat) (types cat) (good-lower cat g) t.0 (type-first cat t h) (type-last cat t h)

  -- LAW: a type is among its own lineage, and so is each that it lies beneath
  pub above-own : (t : TypeCode) → is_type cat t ≡ true → is_in t.0 (lineage cat t) ≡ true
  above-own t h = rw (above_step t h, eq-eqb t.0 t.0 refl)

  pub above-beneath : (t u : TypeCode) → is_type cat t ≡ true → type_beneath cat t u ≡ true → is_in u.0 (lineage cat t) ≡ true
  unfolding type_beneath
  above-beneath t u h b = rw (above_step t h) (or-true (eqb u.0 t.0) (is_in u.0 (lineage cat (parent_of cat t))) b)

  parent-low : (t : TypeCode) → is_type cat t ≡ true → (parent_of cat t).0 < t.0
  parent-low t h = Types.lower-at (par cat) (types cat) t.0 (good-lower cat g) (type-first cat t h) (type-last cat t h)

  -- LAW: a type that another lies beneath has the smaller code
  pub beneath-below : (t u : TypeCode) → is_type cat t ≡ true → type_beneath cat t u ≡ true → u.0 < t.0
  unfolding type_beneath lineage Types.lineage
  beneath-below t u h b =
      let p : ℕ = (parent_of cat t).0 in
      omega (arith, parent-low t h, type-last cat t h, lineage-le (par cat) (types cat) (good-lower cat g) p p u.0 (omega (arith, parent-low t h, type-last cat t h)) b)

  trans-from : (n v u x : ℕ) → v ≤ n → v ≤ types cat → is_in u (lineage cat (code v)) ≡ true → is_in x (lineage cat (code u)) ≡ true → is_in x (lineage cat (code v)) ≡ true
  unfolding lineage Types.lineage Types.lineage_from
  trans-from zero zero u x a b h k = absurd (let z : ◌≡◌ {A = ℕ} 0 1 = cc in omega arith)
  trans-from zero (suc v) u x a b h k = absurd (omega arith)
  trans-from (suc n) zero u x a b h k = absurd (let z : ◌≡◌ {A = ℕ} 0 1 = cc in omega arith)
  trans-from (suc n) (suc v) u x a b h k =
      let s = Types.lineage-step (par cat) (types cat) (good-lower cat g) (suc v) (omega arith) b in
      let l = Types.lower-at (par cat) (types cat) (suc v) (good-lower cat g) (omega arith) b in
      let f : (eqb u (suc v) || is_in u (Types.lineage (par cat) (par cat (suc v)))) ≡ true = sym (ap (is_in u) s) ∙ h in
      elim (is (eqb u (suc v))) [
        | on e ↦ (let z : u ≡ suc v = eqb-true u (suc v) e in rw z at k)
        | off e ↦ ap (is_in x) s ∙ or-true (eqb x (suc v)) (is_in x (Types.lineage (par cat) (par cat (suc v)))) (trans-from n (par cat (suc v)) u x (omega (arith, l)) (omega (arith, l)) (or_right (eqb u (suc v)) (is_in u (Types.lineage (par cat) (par cat (suc v)))) f e) k)
      ]

  -- LAW: what is above a type above t is above t
  pub above-above : (t u x : TypeCode) → t.0 ≤ types cat → is_in u.0 (lineage cat t) ≡ true → is_in x.0 (lineage cat u) ≡ true → is_in x.0 (lineage cat t) ≡ true
  above-above t u x b h k = trans-from t.0 t.0 u.0 x.0 (omega arith) b h k
