-- What an operator asks of how one value stands to another. Assumes nothing: these are definitions.
use Rattle.std.specs.declared.cmp.Ordering.{Ordering}
use Rattle.std.specs.Prelude.{Bool, not, ℕ, eqb}
use Rattle.std.specs.Ordering.{is_lt, is_eq, is_gt}
use Rattle.terms.specs.declared.Operator.{Operator}
use Rattle.terms.specs.declared.Operator.TheVariants.{Eq, Ne, Lt, Le, Gt, Ge}
use Rattle.terms.specs.Choice.{pick}

-- R25: the field is on the left
abbrev pub holds : Operator → Ordering → Bool
holds Eq o = is_eq o
holds Ne o = not (is_eq o)
holds Lt o = is_lt o
holds Le o = not (is_gt o)
holds Gt o = is_gt o
holds Ge o = not (is_lt o)

-- R25: read from its number, for 1 to 6, and written as one
unfoldable pub operator_of : ℕ → Operator
operator_of b = pick (eqb b 1) Eq (pick (eqb b 2) Ne (pick (eqb b 3) Lt (pick (eqb b 4) Le (pick (eqb b 5) Gt Ge))))

abbrev pub operator_number : Operator → ℕ
operator_number Eq = 1
operator_number Ne = 2
operator_number Lt = 3
operator_number Le = 4
operator_number Gt = 5
operator_number Ge = 6
