-- What the order by value type is promised for, and a part of it. Assumes nothing: these are definitions.
use Rattle.std.specs.declared.cmp.Ordering.{Ordering}
use Rattle.std.specs.declared.cmp.Ordering.TheVariants.{Equal}
use Rattle.std.specs.Prelude.{◌≡◌, Bool, true, ◌&&◌, ℕ, ◌/◌, ◌%◌, eqb, leb}
use Rattle.terms.specs.declared.Operator.{Operator}
use Rattle.terms.specs.Choice.{pick}
use Rattle.terms.specs.Operators.{holds}
use Rattle.rules.specs.Block.{Bytes}
use Rattle.rules.specs.Packed.{is_number, magnitude}
use Rattle.rules.specs.Order.{is_value, value_order}

-- R87: a byte before the last
abbrev pub two_digits : ℕ → Bool
two_digits x = leb (x / 16) 9 && leb (x % 16) 9

-- two packed numbers
pub record Numbers (a b : Bytes) : Type 0 where
  pub first : is_number a ≡ true
  pub second : is_number b ≡ true

-- two values of different signs: o, unless both are zero
abbrev pub unless_zeros : Bytes → Bytes → Ordering → Ordering
unless_zeros a b o = pick (eqb (magnitude a) 0 && eqb (magnitude b) 0) Equal o

-- R90: a is a value of value type w, and stands to b as the operator says
abbrev pub tested : ℕ → Operator → Bytes → Bytes → Bool
tested w o a b = is_value w a && holds o (value_order w a b)
