-- How the check of the types goes on from one type to the next. Assumes nothing.
use mathlib.Core.Path.{◌≡◌, refl}
use mathlib.Core.Bool.{true}
use Prim.Native.Nat.{ℕ, zero, suc, ◌-◌, ◌<◌, ◌≤◌}
use native.Mathlib.Omega.{arith}
use lib.ListN.{replicate}
use borrow.Author.Tests.{lt-ltb}
use Rattle.forest.specs.Types as Types
use Rattle.rules.specs.Block.{Bytes}
use Rattle.rules.specs.Catalogue.{types, good_parent, good_header}
use Rattle.rules.proofs.Catalogue.{par, parent-low}
use Rattle.rules.proofs.Entries.{header_of}
use Rattle.catalogue.specs.Levels.{Ordered}
use Rattle.catalogue.proofs.Levels.{levels-none}
use Rattle.catalogue_check.specs.Levelled.{Ready, Next}

module _ (cat : Bytes) where
  -- a good parent keeps the types in order
  lower-more : (t : ℕ) → 0 < t → Types.lower (par cat) (t - 1) ≡ true → good_parent cat t ≡ true → Types.lower (par cat) t ≡ true
  lower-more zero a low e = absurd (omega arith)
  lower-more (suc k) a low e =
      let z : suc k - 1 ≡ k = omega arith in
      let l : Types.lower (par cat) k ≡ true = rw z at low in
      rw (lt-ltb (par cat (suc k)) (suc k) (parent-low cat k l e), l)

  pub ordered-more : (row : Bytes) (t : ℕ) → Next cat row t → good_parent cat t ≡ true → Ordered cat t
  ordered-more row t n e = record { few = n.few; within = n.within; lower = lower-more t n.some n.before.ordered.lower e }

  module _ (h : good_header cat ≡ true) where
    -- before the first type
    pub ready-none : Ready cat (replicate 33 0) 0
    ready-none = record { ordered = record { few = omega arith; within = omega (arith, (header_of cat h).size); lower = refl }; levels = levels-none cat }

    -- the next one
    pub next_of : (row : Bytes) (k : ℕ) → 0 < k → k ≤ types cat → Ready cat row (k - 1) → Next cat row k
    next_of row k s l r = record {
      some = s;
      few = omega (arith, (header_of cat h).types-most);
      within = omega (arith, (header_of cat h).size);
      before = r;
    }
