-- A row of type levels, one type more at a time: each from its parent's. Assumes nothing.
use mathlib.Core.Path.{◌≡◌, refl, sym, ◌∙◌}
use mathlib.Core.Bool.{true}
use mathlib.Core.List.{[]}
use Prim.Native.Nat.{ℕ, zero, suc, ◌+◌, ◌-◌, ◌*◌, ◌<◌, ◌≤◌}
use native.Mathlib.Omega.{arith}
use lib.ListN.{length, set, length-set, replicate}
use lib.Seq.{get_or-set_same, get_or-set_other}
use Rattle.terms.specs.declared.TypeCode.{TypeCode}
use Rattle.terms.specs.Names.{code}
use Rattle.forest.specs.Forest.{inside, outside, side}
use Rattle.forest.specs.Types as Types
use Rattle.rules.specs.Block.{Bytes, byte}
use Rattle.rules.specs.Catalogue.{types, type_byte, parent_of, lineage, level, is_type, good_catalogue}
use Rattle.rules.proofs.Catalogue.{par, lower-to}
use Rattle.catalogue.specs.Levels.{Ordered, Levels}
use Rattle.catalogue.proofs.Hierarchy.{type-range, header-facts}

-- as many types stand above as the climb has steps
climbed-most : (par : ℕ → ℕ) (n u : ℕ) → length (Types.lineage_from par n u) ≤ n
unfolding Types.lineage_from
climbed-most par zero u = omega arith
climbed-most par (suc n) zero = omega arith
climbed-most par (suc n) (suc u) = omega (arith, climbed-most par n (par (suc u)))

module _ (cat : Bytes) where
  -- the most that R8 allows is not needed for this: no level exceeds its type's code
  pub level-within : (t : TypeCode) → level cat t ≤ t.0
  unfolding level lineage Types.lineage
  level-within t = climbed-most (par cat) t.0 t.0

  pub level-none : level cat (code 0) ≡ 0
  level-none = omega (arith, level-within (code 0))

  -- a row of zeros, before the first type
  pub levels-none : Levels cat (replicate 33 0) 0
  levels-none = record { long = refl; each = λ u l. (let z : u ≡ 0 = omega arith in rw z (sym level-none)) }

  -- a shorter stretch of it
  pub levels-less : {row : Bytes} {k : ℕ} → Levels cat row k → (j : ℕ) → j ≤ k → Levels cat row j
  levels-less l j h = record { long = l.long; each = λ u b. l.each u (omega arith) }

  -- one type more; a is its parent, as its entry has it
  module _ (row : Bytes) (t a : ℕ) (o : Ordered cat t) (some : 0 < t) (is : a ≡ byte cat (8 * t)) where
    above-is : a ≡ par cat t
    unfolding type_byte parent_of
    above-is = let z : 8 * t + 0 ≡ 8 * t = omega arith in is ∙ rw z

    pub above_before : a < t
    above_before = rw above-is (Types.lower-at (par cat) t t o.lower some (omega arith))

    level-up : level cat (code t) ≡ suc (level cat (code a))
    unfolding level lineage Types.level
    level-up = rw above-is (Types.level-suc (par cat) t o.lower t some (omega arith))

    module _ (l : Levels cat row (t - 1)) where
      above-level : byte row a ≡ level cat (code a)
      above-level = l.each a (omega (arith, above_before))

      -- the sum does not leave the byte
      pub above-few : byte row a < 33
      above-few = omega (arith, above-level, level-within (code a), above_before, o.few)

      pub levels-more : Levels cat (set row t (byte row a + 1)) t
      levels-more = record {
        long = length-set row t (byte row a + 1) ∙ l.long;
        each = λ u h. elim (side u t) [
          | inside b ↦ get_or-set_other row t u (byte row a + 1) 0 (λ z. omega arith) ∙ l.each u (omega arith)
          | outside b ↦
              let z : u ≡ t = omega arith in
              rw z (get_or-set_same row t (byte row a + 1) 0 (omega (arith, o.few, l.long)) ∙ omega (arith, above-level, level-up))
        ];
      }

  module _ (g : good_catalogue cat ≡ true) where
    -- what a good catalogue gives for the pass
    pub ordered : (k : ℕ) → k ≤ types cat → Ordered cat k
    ordered k h =
        let f = header-facts cat g in
        record { few = omega (arith, f.types-most); within = omega (arith, f.size); lower = lower-to cat g k h }

    -- one type up, as its entry has it: k levels were counted so far, of those of type t
    module _ (t : TypeCode) (is-type : is_type cat t ≡ true) (k u : ℕ) (known : u ≤ types cat) (counted : k + level cat (code u) ≡ level cat t) where
      pub counted-few : k < 33
      counted-few = omega (arith, counted, level-within t, (type-range cat t is-type).1, (header-facts cat g).types-most)

      module _ (a : ℕ) (some : 0 < u) (is : a ≡ byte cat (8 * u)) where
        pub up-less : a < u
        up-less = above_before [] u a (ordered u known) some is

        pub counted-more : k + 1 + level cat (code a) ≡ level cat t
        counted-more = omega (arith, counted, level-up [] u a (ordered u known) some is)

    -- the row of all types, asked for one of them
    module _ (row : Bytes) (l : Levels cat row (types cat)) (t : TypeCode) (k : is_type cat t ≡ true) (b : ℕ) (e : b ≡ t.0) where
      pub type-few : b < 33
      type-few = omega (arith, (type-range cat t k).1, (header-facts cat g).types-most)

      pub type-level : byte row b ≡ level cat t
      type-level = rw e (l.each t.0 (type-range cat t k).1)
