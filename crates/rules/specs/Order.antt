-- Values by their value type: which bytes are one, and how two stand to each other, keys among twins and a field to an argument's value. Assumes nothing:
-- these are definitions.
use Rattle.std.specs.declared.cmp.Ordering.{Ordering}
use Rattle.std.specs.declared.cmp.Ordering.TheVariants.{Equal, Greater, Less}
use Rattle.std.specs.Prelude.{Bool, true, false, [], ◌∷◌, ℕ, ltb, eqb}
use Rattle.terms.specs.Choice.{pick}
use Rattle.rules.specs.Block.{Bytes}
use Rattle.rules.specs.Packed.{is_number, packed_order}

-- R16: how two values of bytes compare
unfoldable pub order : Bytes → Bytes → Ordering
order [] ys = Equal
order (x ∷ xs) [] = Equal
order (x ∷ xs) (y ∷ ys) = elim (eqb x y) [ true ↦ order xs ys | false ↦ pick (ltb x y) Less Greater ]

-- R86: of value type 1 a value is a packed number, of value type 0 any bytes are one
unfoldable pub is_value : ℕ → Bytes → Bool
is_value w xs = elim (eqb w 1) [ true ↦ is_number xs | false ↦ true ]

-- R88: how a value stands to another of the same value type w
unfoldable pub value_order : ℕ → Bytes → Bytes → Ordering
value_order w xs ys = elim (eqb w 1) [ true ↦ packed_order xs ys | false ↦ order xs ys ]
