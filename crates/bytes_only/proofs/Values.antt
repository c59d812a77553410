-- Of bytes alone: the value type of every key and field that there is, and so which bytes are values, and how two stand to each other. Assumes nothing.
use mathlib.Core.Path.{◌≡◌}
use mathlib.Core.Bool.{Bool, true, false}
use Prim.Native.Nat.{ℕ, ◌≤◌}
use native.Mathlib.Omega.{arith}
use lib.Dec.{leb, eqb}
use borrow.Author.Tests.{eqb-true, leb-true}
use Rattle.terms.specs.declared.TypeCode.{TypeCode}
use Rattle.terms.specs.declared.FieldNumber.{FieldNumber}
use Rattle.terms.specs.Names.{code, field, same_type}
use Rattle.forest.specs.Numbers.{range}
use Rattle.rules.specs.Block.{Bytes, every}
use Rattle.rules.specs.Order.{is_value, value_order}
use Rattle.rules.specs.Catalogue.{types, fields, key_value, field_type, field_value, is_type}
use Rattle.rules.specs.Cells.{Segment, key, keyed, key_order, twin_order, same_key, goes_before}
use Rattle.rules.specs.Arguments.{is_field_of}
use Rattle.rules.proofs.Every.{every-at}
use Rattle.rules.proofs.Entries.{type-range}
use Rattle.rules.proofs.Joined.{two, three}
use Rattle.rules.proofs.Values.{value-bytes, is-bytes}
use Rattle.bytes_only.specs.Before as Before
use Rattle.bytes_only.specs.AsBefore.{bytes_only}

-- of value type 0 all is a value, and the order is that of before
module _ (w : ℕ) (bytes : eqb w 0 ≡ true) where
  not-packed : eqb w 1 ≡ false
  not-packed = let z : w ≡ 0 = eqb-true w 0 bytes in rw z

  pub bytes-value : (a : Bytes) → is_value w a ≡ true
  bytes-value a = is-bytes w a not-packed

  pub bytes-order : (a b : Bytes) → value_order w a b ≡ Before.value_order w a b
  unfolding Before.value_order
  bytes-order a b = value-bytes w a b not-packed

module _ (cat : Bytes) (only : bytes_only cat ≡ true) where
  -- the two halves of the premise
  abbrev key_of_bytes : ℕ → Bool
  key_of_bytes k = eqb (key_value cat (code k)) 0

  abbrev field_of_bytes : ℕ → Bool
  field_of_bytes f = eqb (field_value cat (field f)) 0

  parts : (every key_of_bytes (range 1 (types cat)) ≡ true) × (every field_of_bytes (range 1 (fields cat)) ≡ true)
  unfolding bytes_only
  parts = two (every key_of_bytes (range 1 (types cat))) (every field_of_bytes (range 1 (fields cat))) only

  -- the key of a type
  pub type-bytes : (t : TypeCode) → is_type cat t ≡ true → eqb (key_value cat t) 0 ≡ true
  type-bytes t h =
      let r = type-range cat t h in
      every-at key_of_bytes 1 (types cat) t.0 parts.0 r.0 (omega (arith, r.1))

  -- a field of a type
  pub field-bytes : (list : Bytes) (t : TypeCode) (f : FieldNumber) → is_field_of cat list t f ≡ true → eqb (field_value cat f) 0 ≡ true
  unfolding is_field_of
  field-bytes list t f h =
      let r = three (leb 1 f.0) (leb f.0 (fields cat)) (same_type (field_type cat f) t) h in
      let a : 1 ≤ f.0 = leb-true 1 f.0 r.0 in
      let b : f.0 ≤ fields cat = leb-true f.0 (fields cat) r.1 in
      every-at field_of_bytes 1 (fields cat) f.0 parts.1 a (omega arith)

-- a segment whose key is of bytes
module _ (cat : Bytes) (c : Segment) (bytes : eqb (key_value cat c.code) 0 ≡ true) where
  -- its key is a value, whatever it holds
  pub bytes-keyed : keyed cat c ≡ true
  unfolding keyed
  bytes-keyed = bytes-value (key_value cat c.code) bytes (key cat c)

  -- how it stands to another one's is how the bytes do, and all that goes by it
  module _ (d : Segment) where
    key-order : key_order cat c d ≡ Before.key_order cat c d
    unfolding key_order Before.key_order
    key-order = bytes-order (key_value cat c.code) bytes (key cat c) (key cat d)

    pub twin-order : twin_order cat c d ≡ Before.twin_order cat c d
    unfolding twin_order Before.twin_order
    twin-order = rw key-order

    pub same_key_lem : same_key cat c d ≡ Before.same_key cat c d
    unfolding same_key Before.same_key
    same_key_lem = rw key-order

    pub goes_before_lem : goes_before cat c d ≡ Before.goes_before cat c d
    unfolding goes_before Before.goes_before
    goes_before_lem = rw key-order
