-- The order by value type: a total order up to value, on values of one length. All that a proof above `rules` may use of it. Assumes nothing.
use Rattle.std.specs.declared.cmp.Ordering.TheVariants.{Equal, Less}
use mathlib.Core.Path.{◌≡◌, refl, ap, sym, ◌∙◌}
use mathlib.Core.Bool.{true, false, ◌&&◌}
use Prim.Native.Nat.{ℕ}
use lib.Dec.{eqb}
use lib.ListN.{length}
use Rattle.terms.specs.declared.Operator.{Operator}
use Rattle.terms.specs.Operators.{holds}
use Rattle.forest.specs.Good.{on, off, is}
use Rattle.rules.specs.Block.{Bytes}
use Rattle.rules.specs.Packed.{is_number, packed_order}
use Rattle.rules.specs.Order.{order, is_value, value_order}
use Rattle.rules.proofs.Order.{turned, order-self, order-turned, order-equal, order-transitive}
use Rattle.rules.proofs.Packed.{packed-self, packed-turned, packed-transitive, packed-left, packed-right}

-- by value type: packed, or bytes, of which any are a value
pub value-packed : (w : ℕ) (a b : Bytes) → eqb w 1 ≡ true → value_order w a b ≡ packed_order a b
unfolding value_order
value-packed w a b h = rw (value_order, h)

pub value-bytes : (w : ℕ) (a b : Bytes) → eqb w 1 ≡ false → value_order w a b ≡ order a b
unfolding value_order
value-bytes w a b h = rw (value_order, h)

pub is-packed : (w : ℕ) (a : Bytes) → eqb w 1 ≡ true → is_value w a ≡ is_number a
unfolding is_value
is-packed w a h = rw (is_value, h)

pub is-bytes : (w : ℕ) (a : Bytes) → eqb w 1 ≡ false → is_value w a ≡ true
unfolding is_value
is-bytes w a h = rw (is_value, h)

-- R90: of a packed value that is a number the operator alone is asked
pub holds-packed : (o : Operator) (a b : Bytes) → is_number a ≡ true → (is_value 1 a && holds o (value_order 1 a b)) ≡ holds o (packed_order a b)
holds-packed o a b h = rw (is-packed 1 a refl, h, value-packed 1 a b refl)

module _ (w : ℕ) where
  pub value-self : (a : Bytes) → value_order w a a ≡ Equal
  value-self a = elim (is (eqb w 1)) [
    | on h ↦ value-packed w a a h ∙ packed-self a
    | off h ↦ value-bytes w a a h ∙ order-self a
  ]

  pub value-turned : (a b : Bytes) → length a ≡ length b → value_order w b a ≡ turned (value_order w a b)
  value-turned a b l = elim (is (eqb w 1)) [
    | on h ↦ value-packed w b a h ∙ packed-turned a b ∙ sym (ap turned (value-packed w a b h))
    | off h ↦ value-bytes w b a h ∙ order-turned a b l ∙ sym (ap turned (value-bytes w a b h))
  ]

  pub value-transitive : (a b c : Bytes) → value_order w a b ≡ Less → value_order w b c ≡ Less → value_order w a c ≡ Less
  value-transitive a b c e f = elim (is (eqb w 1)) [
    | on h ↦ value-packed w a c h ∙ packed-transitive a b c (sym (value-packed w a b h) ∙ e) (sym (value-packed w b c h) ∙ f)
    | off h ↦ value-bytes w a c h ∙ order-transitive a b c (sym (value-bytes w a b h) ∙ e) (sym (value-bytes w b c h) ∙ f)
  ]

  -- congruence: an equal value stands to every other as the first does
  pub value-left : (a b c : Bytes) → length a ≡ length b → value_order w a b ≡ Equal → value_order w a c ≡ value_order w b c
  value-left a b c l e = elim (is (eqb w 1)) [
    | on h ↦ value-packed w a c h ∙ packed-left a b c (sym (value-packed w a b h) ∙ e) ∙ sym (value-packed w b c h)
    | off h ↦ value-bytes w a c h ∙ ap (λ (v : Bytes). order v c) (order-equal a b l (sym (value-bytes w a b h) ∙ e)) ∙ sym (value-bytes w b c h)
  ]

  pub value-right : (a b c : Bytes) → length b ≡ length c → value_order w b c ≡ Equal → value_order w a b ≡ value_order w a c
  value-right a b c l e = elim (is (eqb w 1)) [
    | on h ↦ value-packed w a b h ∙ packed-right a b c (sym (value-packed w b c h) ∙ e) ∙ sym (value-packed w a c h)
    | off h ↦ value-bytes w a b h ∙ ap (order a) (order-equal b c l (sym (value-bytes w b c h) ∙ e)) ∙ sym (value-bytes w a c h)
  ]
