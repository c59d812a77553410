-- What the readers need of a good catalogue: which types are child types of a type, and what the bytes of a key's kind and value type can be. Assumes nothing.
use mathlib.Core.Path.{◌≡◌}
use mathlib.Core.Bool.{true}
use Prim.Native.Nat.{ℕ, ◌+◌, ◌*◌, ◌<◌, ◌≤◌}
use native.Mathlib.Omega.{arith}
use lib.Dec.{eqb}
use borrow.Author.Tests.{eq-eqb, eqb-true}
use Rattle.terms.specs.Names.{code}
use Rattle.forest.specs.Good.{both_left, both_right}
use Rattle.rules.specs.Block.{Bytes, byte}
use Rattle.rules.specs.Catalogue.{types, type_byte, key_kind, key_value, is_type, good_catalogue}
use Rattle.rules.specs.Cells.{Segment, type_number, is_child}
use Rattle.rules.proofs.Catalogue.{par}
use Rattle.catalogue.proofs.Hierarchy.{type-range, range-type, type-facts, parent-before}

module _ (cat : Bytes) where
  -- a segment under a parent of type p
  pub child-is : (p : ℕ) (s : Segment) → is_child cat p s ≡ true → (0 < type_number s) × (type_number s ≤ types cat) × (par cat (type_number s) ≡ p)
  unfolding is_child
  child-is p s h =
      let a = type-range cat s.code (both_left (is_type cat s.code) (eqb (par cat (type_number s)) p) h) in
      (a.0, a.1, eqb-true (par cat (type_number s)) p (both_right (is_type cat s.code) (eqb (par cat (type_number s)) p) h))

  pub is-child : (p : ℕ) (s : Segment) → 0 < type_number s → type_number s ≤ types cat → par cat (type_number s) ≡ p → is_child cat p s ≡ true
  unfolding is_child
  is-child p s a b e = rw (range-type cat s.code a b, eq-eqb (par cat (type_number s)) p e)

  module _ (g : good_catalogue cat ≡ true) where
    -- child types come after their parent
    pub child-after : (p : ℕ) (s : Segment) → is_child cat p s ≡ true → p < type_number s
    child-after p s h =
        let z = child-is p s h in
        omega (arith, parent-before cat g s.code z.0 z.1, z.2)

    -- the kind and 4 for a packed key go into one byte
    pub kind-bytes : (v : ℕ) → 1 ≤ v → v ≤ types cat → (byte cat (8 * v + 2) ≤ 2) × (byte cat (8 * v + 7) ≤ 1)
    unfolding key_kind key_value type_byte
    kind-bytes v a b = let f = type-facts cat g (code v) a b in (f.kind-most, f.value-most)
