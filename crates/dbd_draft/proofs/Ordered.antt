-- Two blocks whose entries of types are the same: their types are in order alike, one row of levels serves both, and so does the test of the next type.
-- Assumes nothing.
use mathlib.Core.Path.{◌≡◌, ap, sym, ◌∙◌}
use mathlib.Core.Bool.{true}
use Prim.Native.Nat.{ℕ, suc, ◌+◌, ◌-◌, ◌*◌, ◌≤◌}
use native.Mathlib.Omega.{arith}
use lib.ListN.{length}
use Rattle.forest.specs.Types as Types
use Rattle.terms.specs.Names.{code}
use Rattle.rules.specs.Block.{Bytes}
use Rattle.rules.specs.Catalogue.{type_byte, parent_of, level, good_type}
use Rattle.rules.proofs.Catalogue.{par}
use Rattle.catalogue_check.specs.Levelled.{Ready}
use Rattle.statements.proofs.Frame.{lineage-same, lower-same, good_type-from}
use Rattle.statements.proofs.Rows.{Alike}

-- the parents of the types from 1 to k are the same
module _ (a b : Bytes) (k : ℕ) (s : Alike a b 8 (8 * k + 1)) where
  par-same : (u : ℕ) → 1 ≤ u → u ≤ k → par a u ≡ par b u
  unfolding parent_of type_byte
  par-same u l m = s (8 * u + 0) (omega arith) (omega arith)

  level-same : Types.lower (par a) k ≡ true → (u : ℕ) → u ≤ k → level a (code u) ≡ level b (code u)
  unfolding level
  level-same low u h = ap length (lineage-same a b k par-same k u (omega arith) low h)

-- so the row of levels serves the other block too
pub ready-same : (a b levels : Bytes) (k : ℕ) → Alike a b 8 (8 * k + 1) → length a ≡ length b → Ready a levels k → Ready b levels k
ready-same a b levels k s e r = record {
  ordered = record {
    few = r.ordered.few;
    within = omega (arith, r.ordered.within);
    lower = sym (lower-same a b k (par-same a b k s) k (omega arith)) ∙ r.ordered.lower;
  };
  levels = record {
    long = r.levels.long;
    each = λ u h. r.levels.each u h ∙ level-same a b k s r.ordered.lower u h;
  };
}

-- the next type, behind k that are in order: nothing but the entries decides whether it is good
pub type-same : (a b : Bytes) (k : ℕ) → Alike a b 8 (8 * suc k + 8) → Types.lower (par a) k ≡ true → good_type a (suc k) ≡ good_type b (suc k)
type-same a b k s low = good_type-from a b (suc k) (let z : suc k - 1 ≡ k = omega arith in rw z low) s
