-- The bytes of a field in a cell, against the bytes of a value in the list, by the field's value type. Assumes nothing.
use Rattle.std.specs.declared.cmp.Ordering.{Ordering}
use mathlib.Core.Path.{◌≡◌, ap, sym, ◌∙◌}
use mathlib.Core.Bool.{Bool, true, false}
use Prim.Native.Nat.{ℕ, ◌+◌, ◌-◌, ◌*◌, ◌≤◌}
use native.Mathlib.Omega.{arith}
use lib.Dec.{eqb}
use lib.ListN.{length}
use borrow.Author.Tests.{eq-eqb, ne_eqb}
use Rattle.terms.specs.declared.FieldNumber.{FieldNumber}
use Rattle.terms.specs.declared.Operator.{Operator}
use Rattle.terms.specs.Operators.{holds}
use Rattle.terms.specs.Names.{field}
use Rattle.rules.specs.Block.{Bytes, byte, part}
use Rattle.rules.specs.Packed.{is_number}
use Rattle.rules.specs.Catalogue.{types, field_byte, field_type, field_start, field_length, field_value}
use Rattle.rules.specs.Cells.{segment}
use Rattle.rules.specs.Table.{listing}
use Rattle.rules.specs.Order.{order}
use Rattle.rules.specs.Arguments.{operator_of, meant}
use Rattle.rules.specs.Matching.{field_bytes, tested, satisfies}
use Rattle.rules.proofs.Values.{value-bytes, is-packed, is-bytes}
use Rattle.catalogue.proofs.Hierarchy.{range-type, field-facts}
use Rattle.cells.specs.Lent.{InData, start_of}
use Rattle.cells.proofs.Data.{data-in, data_of}
use Rattle.values.specs.Lent as Lent
use Rattle.arguments.specs.Asked.{test_at}
use Rattle.search.specs.Good.{Testable}

-- the field that a test names in the byte before its value; the code has found its entry, and read its start and length there as s and n
module _ {cat tab list : Bytes} {size i v entry s n : ℕ} (h : Testable cat tab list size i v)
    (e : entry ≡ 4 + 8 * types cat + 4 * byte list (v - 1)) (a : s ≡ byte cat (entry + 1)) (b : n ≡ byte cat (entry + 2)) where
  abbrev f : FieldNumber
  f = field (byte list (v - 1))

  abbrev own : Bytes
  own = field_bytes cat f (segment (listing cat tab) i)

  entry-byte : (k : ℕ) → byte cat (entry + k) ≡ field_byte cat f k
  unfolding field_byte
  entry-byte k = ap (λ (m : ℕ). byte cat (m + k)) e

  start_is : s ≡ field_start cat f
  unfolding field_start
  start_is = a ∙ entry-byte 1

  long-is : n ≡ field_length cat f
  unfolding field_length
  long-is = b ∙ entry-byte 2

  value-is : byte cat (entry + 3) ≡ field_value cat f
  unfolding field_value
  value-is = entry-byte 3

  -- it lies within the data of the cell
  pub field-data : InData cat tab size i s n
  field-data =
      let d = field-facts cat h.catalogue f h.tests.first h.tests.last in
      record {
        sized = h.sized;
        good = h.catalogue;
        cell = h.cell;
        known = rw (← h.tests.own) (range-type cat (field_type cat f) d.type-least d.type-most);
        first = λ z. absurd (omega (arith, d.start-least, start_is));
        last = rw (← h.tests.own) (omega (arith, d.within, start_is, long-is));
      }

  -- and the value within the list
  pub value_in : v + n ≤ length list
  value_in = omega (arith, long-is, h.tests.within)

  -- the same of the bytes of the table; the cell begins at byte `at`
  pub places-in : {at : ℕ} → at ≡ start_of tab size i → (at + s + n ≤ length tab) × (v + n ≤ length list)
  places-in l = (rw l (data-in field-data), value_in)

  field-part : part (segment (listing cat tab) i).bytes (s - 1) n ≡ own
  unfolding field_bytes
  field-part = rw (start_is, long-is)

  module _ {o : Operator} (y : o ≡ operator_of (byte list (v - 2))) {q : Bool} where
    -- LAW: of value type 1 both are numbers, or the field satisfies nothing
    pub packed-holds : byte cat (entry + 3) ≡ 1 → {at : ℕ} → at ≡ start_of tab size i
        → (is_number (part list v n) ≡ true → q ≡ Lent.tested 1 o (part tab (at + s) n) (part list v n))
        → q ≡ satisfies cat (segment (listing cat tab) i) (meant cat list (test_at list v))
    unfolding tested
    packed-holds w {at} l r =
        let c : field_value cat f ≡ 1 = sym value-is ∙ w in
        let m : n ≡ at + s + n - (at + s) = omega arith in
        let x : part tab (at + s) n ≡ own = ap (part tab (at + s)) m ∙ data_of field-data at l ∙ field-part in
        let g : is_number (part list v n) ≡ true =
        ap (λ (k : ℕ). is_number (part list v k)) long-is ∙ sym (is-packed (field_value cat f) _ (eq-eqb (field_value cat f) 1 c)) ∙ h.tests.value in
        r g ∙ rw (y, x, long-is, c)

    -- LAW: of any other, what the bytes compare to, held against the operator, is what the test says of the cell
    pub bytes-hold : (byte cat (entry + 3) ≡ 1 → ⊥) → {x : Bytes} {r : Ordering} → x ≡ part (segment (listing cat tab) i).bytes (s - 1) n
        → r ≡ order x (part list v (v + n - v)) → q ≡ holds o r → q ≡ satisfies cat (segment (listing cat tab) i) (meant cat list (test_at list v))
    unfolding tested
    bytes-hold w {x} {r} l z u =
        let c : eqb (field_value cat f) 1 ≡ false = ne_eqb (field_value cat f) 1 (λ k. w (value-is ∙ k)) in
        let m : v + n - v ≡ n = omega arith in
        u ∙ rw (is-bytes (field_value cat f) own c, value-bytes (field_value cat f) own (part list v (field_length cat f)) c, y, z, l, field-part, m, long-is)
