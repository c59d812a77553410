-- A list that grows argument by argument in a buffer that holds every list which can be right: 15 levels, each with a field of 120 bytes. What does not
-- fit there spoils it: it begins with type 0 then, which is none, and whatever follows it is refused (R26). Assumes nothing: these are definitions.
use Rattle.std.specs.Prelude.{not, ◌&&◌, [], ◌∷◌, ◌++◌, ℕ, ◌+◌, leb, eqb, length, take, drop}
use Rattle.terms.specs.Choice.{pick}
use Rattle.terms.specs.Names.{field}
use Rattle.rules.specs.Block.{Bytes}
use Rattle.rules.specs.Catalogue.{field_length}

-- how many bytes of the buffer the list has, and all of the buffer
pub record Built : Type 0 where
  pub used : ℕ
  pub buffer : Bytes

abbrev pub built : ℕ → Bytes → Built
built used buffer = record { used = used; buffer = buffer }

-- bytes written from byte `at` on
unfoldable pub written : Bytes → ℕ → Bytes → Bytes
written b at bytes = take at b ++ bytes ++ drop (at + length bytes) b

abbrev pub spoiled : Bytes → Built
spoiled b = built 1 (0 ∷ drop 1 b)

-- an argument more: its bytes, or a spoiled list where there is no room for them
unfoldable pub with_argument : Bytes → ℕ → Bytes → Built
with_argument b used argument = pick (leb (used + length argument) 1845) (built (used + length argument) (written b used argument)) (spoiled b)

-- R24: an argument that tests nothing
unfoldable pub list_all : Bytes → ℕ → ℕ → Built
list_all b used code = with_argument b used (code ∷ 0 ∷ [])

-- and one that tests a field: with an operator, and a value as long as the field
unfoldable pub list_test : Bytes → Bytes → ℕ → ℕ → ℕ → ℕ → Bytes → Built
list_test cat b used code operator f value =
    pick (not (eqb operator 0) && eqb (length value) (field_length cat (field f)))
    (with_argument b used (code ∷ operator ∷ f ∷ value)) (spoiled b)
