-- What a good catalogue says of the cells: the largest data length, and where the key of a type lies. Assumes nothing.
use mathlib.Core.Path.{◌≡◌}
use mathlib.Core.Bool.{true}
use Prim.Native.Nat.{suc, ◌+◌, ◌≤◌}
use native.Mathlib.Omega.{arith}
use lib.Dec.{eqb}
use borrow.Author.Tests.{eqb-true, eqb-false}
use Rattle.terms.specs.declared.TypeCode.{TypeCode}
use Rattle.forest.specs.Good.{on, off, is}
use Rattle.rules.specs.Block.{Bytes}
use Rattle.rules.specs.Catalogue.{types, length_of, key_kind, key_start, key_length, is_type, largest, good_catalogue}
use Rattle.rules.specs.Table.{cell_size}
use Rattle.rules.proofs.Entries.{type-range, length-largest, largest-most, cell-least, type-facts}

module _ (cat : Bytes) (g : good_catalogue cat ≡ true) where
  -- the largest L is 1 to 120 too
  pub largest-some : 1 ≤ largest cat (types cat)
  unfolding cell_size
  largest-some = omega (arith, cell-least cat g)

  pub largest-few : largest cat (types cat) ≤ 120
  largest-few = largest-most cat g

  module _ (t : TypeCode) (h : is_type cat t ≡ true) where
    pub length-in : length_of cat t ≤ largest cat (types cat)
    length-in = let r = type-range cat t h in length-largest cat t (types cat) r.0 r.1

    -- R5: the key lies in the data, and without a key both numbers are 0
    pub key_in : (key_start cat t + key_length cat t ≤ suc (length_of cat t)) × (key_start cat t ≡ 0 → key_length cat t ≡ 0)
    key_in =
        let r = type-range cat t h in
        let f = type-facts cat g t r.0 r.1 in (
          f.key-within,
          λ z. elim (is (eqb (key_kind cat t) 0)) [
            | on e ↦ (f.no_key (eqb-true (key_kind cat t) 0 e)).1
            | off e ↦ absurd (omega (arith, (f.some_key (eqb-false (key_kind cat t) 0 e)).0))
          ],
        )
