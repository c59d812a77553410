-- The answer alone of what the rules of a call say. Assumes nothing: these are definitions.
use Rattle.std.specs.Prelude.{ℕ, leb}
use Rattle.terms.specs.declared.TypeCode.{TypeCode}
use Rattle.terms.specs.declared.Position.{Position}
use Rattle.terms.specs.declared.Status.{Status}
use Rattle.terms.specs.declared.Answer.{Answer}
use Rattle.terms.specs.Choice.{pick}
use Rattle.terms.specs.Statuses.{number}
use Rattle.rules.specs.Block.{Bytes}
use Rattle.rules.specs.Catalogue.{length_of, level}
use Rattle.rules.specs.Calls.{bare, after_miss}

-- of `stopped`
abbrev pub stopped_answer : Status → Position → Answer
stopped_answer s p = pick (leb 20 (number s)) (bare s p) (bare s (after_miss s p))

-- of a segment of type t
unfoldable pub told : Bytes → Status → Position → TypeCode → ℕ → Answer
told cat s p t removed = record { status = s; position = p; code = t; level = level cat t; length = length_of cat t; removed = removed }
