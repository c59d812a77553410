-- A number as a type code, a field number or a cell number, and what there may be none of. Assumes nothing: these are definitions.
use Rattle.std.specs.Prelude.{Bool, ℕ, eqb, Option, Some}
use Rattle.terms.specs.declared.TypeCode.{TypeCode}
use Rattle.terms.specs.declared.FieldNumber.{FieldNumber}
use Rattle.terms.specs.declared.CellNumber.{CellNumber}
use Rattle.terms.specs.declared.Operator.{Operator}
use Rattle.terms.specs.declared.Test.{Test}

abbrev pub code : ℕ → TypeCode
code n = record { 0 = n }

abbrev pub field : ℕ → FieldNumber
field n = record { 0 = n }

abbrev pub cell : ℕ → CellNumber
cell n = record { 0 = n }

abbrev pub same_type : TypeCode → TypeCode → Bool
same_type t u = eqb t.0 u.0

-- R20: none, or the cell of a segment
abbrev pub Parentage : Type 0
Parentage = Option CellNumber

-- R24: an argument tests nothing, or a field
abbrev pub Qualification : Type 0
Qualification = Option Test

abbrev pub test : Operator → FieldNumber → ℕ → Qualification
test o f v = Some (record { operator = o; field = f; value = v })
