-- Lists that test nothing but one type. Assumes nothing: these are definitions.
use Rattle.std.specs.Prelude.{Bool, ◌||◌, not, List, ℕ, Option, Some, None}
use Rattle.terms.specs.declared.TypeCode.{TypeCode}
use Rattle.terms.specs.declared.Argument.{Argument}
use Rattle.terms.specs.Choice.{pick}
use Rattle.terms.specs.Names.{same_type}
use Rattle.rules.specs.Block.{every}
use Rattle.rules.specs.Arguments.{is_qualified}
use Rattle.arguments.specs.Sound.{wanted_of}
use Rattle.arguments.specs.Asked.{entry_for, set_once}

-- an argument for type t, or one that tests nothing
abbrev pub is_alone : TypeCode → Argument → Bool
is_alone t a = same_type a.code t || not (is_qualified a.qualification)

-- the entry of t behind these arguments too, e before them; or that another type is tested
unfoldable pub alone_behind : ℕ → TypeCode → List Argument → ℕ → Option ℕ
alone_behind base t ar e = pick (every (is_alone t) ar) (Some (set_once base ar t.0 e)) None

-- of a whole list
unfoldable pub alone_of : TypeCode → List Argument → Option ℕ
alone_of t ar = pick (every (is_alone t) ar) (Some (entry_for 0 (wanted_of ar t))) None
