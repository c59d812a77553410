-- What a good catalogue says: its types hang beneath type 1 in hierarchic order. That its numbers are within their bounds is passed on. Assumes
-- nothing.
use mathlib.Core.Path.{◌≡◌, refl, ap}
use mathlib.Core.Bool.{true, false}
use mathlib.Core.List.{◌∷◌}
use Prim.Native.Nat.{ℕ, zero, suc, ◌-◌, ◌<◌, ◌≤◌}
use native.Mathlib.Omega.{arith}
use lib.ListN.{length}
use borrow.Author.Tests.{ne_eqb, eqb-true}
use Rattle.terms.specs.declared.TypeCode.{TypeCode}
use Rattle.terms.specs.Names.{code}
use Rattle.forest.specs.Numbers.{is_in}
use Rattle.forest.specs.Types as Types
use Rattle.rules.specs.Block.{Bytes}
use Rattle.rules.specs.Catalogue.{types, parent_of, lineage, level, type_beneath, good_parent, good_catalogue}
use Rattle.rules.proofs.Catalogue.{par, good-parent, good-lower}
pub use Rattle.rules.proofs.Entries.{type-range, range-type, header-facts, type-facts, field-facts, largest-most, cell-least, cell-most, cell_holds}
use Rattle.catalogue.proofs.Chains.{in-self, in-up, in_bounds, in-trans, none_after}

module _ (cat : Bytes) (g : good_catalogue cat ≡ true) where
  -- parents come before their children; type 1 alone has none
  pub parent-before : (t : TypeCode) → 1 ≤ t.0 → t.0 ≤ types cat → (parent_of cat t).0 < t.0
  parent-before t a b = Types.lower-at (par cat) (types cat) t.0 (good-lower cat g) a b

  pub parent-first : parent_of cat (code 1) ≡ code 0
  unfolding good_parent
  parent-first =
      let h : 1 ≤ types cat = (header-facts cat g).types-least in
      ap code (eqb-true (par cat 1) 0 (good-parent cat g 1 (omega arith) h))

  in-last : (k : ℕ) → 0 < k → suc k ≤ types cat → is_in (par cat (suc k)) (Types.lineage (par cat) k) ≡ true
  unfolding good_parent lineage
  in-last k a b =
      let z : suc k - 1 ≡ k = omega arith in
      let h : good_parent cat (suc k) ≡ true = good-parent cat g (suc k) (omega arith) b in
      rw (ne_eqb (suc k) 1 (λ q. omega arith), z) at h

  alone : (u : ℕ) → 1 < u → u ≤ types cat → 0 < par cat u
  alone zero a b = absurd (omega arith)
  alone (suc k) a b = (in_bounds (par cat) (types cat) (good-lower cat g) k (par cat (suc k)) (omega arith) (in-last k (omega arith) b)).0

  pub parent-least : (t : TypeCode) → 1 < t.0 → t.0 ≤ types cat → 1 ≤ (parent_of cat t).0
  parent-least t a b = alone t.0 a b

  -- a type and what stands above its parent
  pub lineage-up : (t : TypeCode) → 1 ≤ t.0 → t.0 ≤ types cat → lineage cat t ≡ t.0 ∷ lineage cat (parent_of cat t)
  unfolding lineage
  lineage-up t a b = Types.lineage-step (par cat) (types cat) (good-lower cat g) t.0 a b

  -- R8: the level of a child
  pub level-child : (t : TypeCode) → 1 ≤ t.0 → t.0 ≤ types cat → level cat t ≡ suc (level cat (parent_of cat t))
  unfolding level
  level-child t a b = ap length (lineage-up t a b)

  pub level-least : (t : TypeCode) → 1 ≤ t.0 → t.0 ≤ types cat → 1 ≤ level cat t
  level-least t a b = omega (arith, level-child t a b)

  pub level-root : level cat (code 1) ≡ 1
  unfolding level lineage Types.lineage Types.lineage_from
  level-root = refl

  -- beneath is a strict order; what lies beneath comes later, and has a greater level
  pub beneath-later : (t u : TypeCode) → 1 ≤ t.0 → t.0 ≤ types cat → type_beneath cat t u ≡ true → (1 ≤ u.0) × (u.0 < t.0) × (level cat u < level cat t)
  unfolding type_beneath level lineage Types.level
  beneath-later t u a b h =
      let d = parent-before t a b in
      let r = in_bounds (par cat) (types cat) (good-lower cat g) (par cat t.0) u.0 (omega arith) h in
      (r.0, omega (arith, r.1), omega (arith, r.2, level-child t a b))

  pub beneath-trans : (t u v : TypeCode) → 1 ≤ t.0 → t.0 ≤ types cat → type_beneath cat t u ≡ true → type_beneath cat u v ≡ true → type_beneath cat t v ≡ true
  unfolding type_beneath lineage
  beneath-trans t u v a b h k =
      let d = parent-before t a b in
      let r = beneath-later t u a b h in
      in-trans (par cat) (types cat) (good-lower cat g) (par cat t.0) u.0 v.0 (omega arith) h
      (in-up (par cat) (types cat) (good-lower cat g) u.0 v.0 r.0 (omega (arith, r.1)) k)

  pub beneath-parent : (t : TypeCode) → 1 < t.0 → t.0 ≤ types cat → type_beneath cat t (parent_of cat t) ≡ true
  unfolding type_beneath lineage
  beneath-parent t a b =
      let d = parent-before t (omega arith) b in
      in-self (par cat) (types cat) (good-lower cat g) (par cat t.0) (parent-least t a b) (omega arith)

  -- the types beneath p stand together right behind p: once one is not beneath p, none that follows is
  pub none-later : (p v w : TypeCode) → p.0 < v.0 → v.0 ≤ w.0 → w.0 ≤ types cat → type_beneath cat v p ≡ false → type_beneath cat w p ≡ false
  unfolding type_beneath lineage
  none-later p v w a l t e = none_after (par cat) (types cat) (good-lower cat g) in-last p.0 v.0 w.0 a l t e
