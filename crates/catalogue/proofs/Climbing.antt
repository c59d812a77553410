-- Climbing from a type to its parent, one step at a time. Assumes nothing.
use mathlib.Core.Path.{◌≡◌, refl}
use mathlib.Core.Bool.{true}
use mathlib.Core.List.{List, [], ◌∷◌}
use Prim.Native.Nat.{ℕ, zero, suc, ◌≤◌}
use native.Mathlib.Omega.{arith}
use borrow.Author.Tests.{eq-eqb, ne_eqb}
use Rattle.terms.specs.declared.TypeCode.{TypeCode}
use Rattle.terms.specs.Names.{code}
use Rattle.forest.specs.Numbers.{is_in}
use Rattle.forest.specs.Types as Types
use Rattle.rules.specs.Block.{Bytes}
use Rattle.rules.specs.Catalogue.{parent_of}
use Rattle.rules.proofs.Catalogue.{par}

-- the types above u and u itself, at most n of them
abbrev pub climbed : Bytes → ℕ → ℕ → List ℕ
climbed cat n u = Types.lineage_from (par cat) n u

module _ (cat : Bytes) where
  pub climbed-none : (n u : ℕ) → n ≤ 0 → climbed cat n u ≡ []
  unfolding Types.lineage_from
  climbed-none zero u h = refl
  climbed-none (suc n) u h = absurd (omega arith)

  pub climbed-top : (n u : ℕ) → u ≡ 0 → climbed cat n u ≡ []
  unfolding Types.lineage_from
  climbed-top zero u h = refl
  climbed-top (suc n) zero h = refl
  climbed-top (suc n) (suc u) h = absurd (omega arith)

  climbed-step : (n m u : ℕ) → n ≡ suc m → (u ≡ 0 → ⊥) → climbed cat n u ≡ u ∷ climbed cat m (par cat u)
  unfolding Types.lineage_from
  climbed-step n m zero h k = absurd (k refl)
  climbed-step n m (suc u) h k = rw h

  pub above_step : (x n m u : ℕ) (p : TypeCode) → n ≡ suc m → (u ≡ 0 → ⊥) → (x ≡ u → ⊥) → p ≡ parent_of cat (code u)
      → is_in x (climbed cat m p.0) ≡ is_in x (climbed cat n u)
  above_step x n m u p h k d e = rw (e, climbed-step n m u h k, ne_eqb x u d)

  pub above-here : (x n m u : ℕ) → n ≡ suc m → (u ≡ 0 → ⊥) → x ≡ u → true ≡ is_in x (climbed cat n u)
  above-here x n m u h k e = rw (climbed-step n m u h k, eq-eqb x u e)
