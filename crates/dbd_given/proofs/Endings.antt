-- What the test of a plain catalogue says of the last three bytes of a type's entry. Assumes nothing.
use mathlib.Core.Path.{◌≡◌, ◌∙◌}
use mathlib.Core.Bool.{◌&&◌}
use Prim.Native.Nat.{◌+◌, ◌*◌}
use lib.Dec.{eqb}
use Rattle.terms.specs.declared.TypeCode.{TypeCode}
use Rattle.rules.specs.Block.{Bytes, part, zeros}
use Rattle.rules.specs.Catalogue.{type_byte}
use Rattle.catalogue_check.proofs.EntryTests.{entry-zeros, entry_zero}

-- byte by byte: the two zeros of R4, and no value type
pub three_zeros : (cat : Bytes) (t : TypeCode) → zeros (part cat (8 * t.0 + 5) 3)
    ≡ (eqb (type_byte cat t 5) 0 && (eqb (type_byte cat t 6) 0 && eqb (type_byte cat t 7) 0))
three_zeros cat t = entry-zeros cat t 5 2 ∙ rw (entry-zeros cat t 6 1, entry_zero cat t 7)
