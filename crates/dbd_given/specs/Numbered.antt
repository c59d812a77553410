-- The number of a field, 0 for none, as an option of a field. Assumes nothing: this is a definition.
use Rattle.std.specs.Prelude.{Option, None, Some, ℕ, zero, suc}
use Rattle.terms.specs.declared.FieldNumber.{FieldNumber}
use Rattle.terms.specs.Names.{field}

abbrev pub numbered : ℕ → Option FieldNumber
numbered zero = None
numbered (suc f) = Some (field (suc f))
