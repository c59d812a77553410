-- What two lists ask as one list, type by type, in a row of entries. Assumes nothing: these are definitions.
use Rattle.std.specs.Prelude.{◌≡◌, List, ◌++◌, ℕ, ◌+◌, ◌-◌, ◌<◌, eqb, length, None, Some}
use Rattle.terms.specs.declared.TypeCode.{TypeCode}
use Rattle.terms.specs.declared.Argument.{Argument}
use Rattle.terms.specs.Choice.{pick}
use Rattle.terms.specs.Names.{code, field, Qualification, test}
use Rattle.forest.specs.Numbers.{is_in}
use Rattle.rules.specs.Block.{Bytes, byte}
use Rattle.rules.specs.Catalogue.{lineage}
use Rattle.rules.specs.Arguments.{operator_of, list_read}
use Rattle.arguments.specs.Sound.{SoundList, Wanted, Implied, Named, wanted_of}

-- two lists without fault that are one list without fault; the second may be empty
pub record Pair (cat one two : Bytes) : Type 0 where
  pub first : SoundList cat one
  pub second : SoundList cat two
  pub joined : SoundList cat (one ++ two)

-- the entry of an argument in a list that begins this many bytes further on: 2, for it tests nothing; else where the value of its test begins
abbrev pub marked : ℕ → Qualification → ℕ
marked base None = 2
marked base (Some x) = base + x.value

-- an offset that fits
abbrev pub InLists : ℕ → Qualification → Type 0
InLists base q = marked base q < 65536

-- the entry of what a list wants of a type: 1, for it leaves the type out
abbrev pub entry_for : ℕ → Wanted → ℕ
entry_for base Implied = 1
entry_for base (Named q) = marked base q

-- the test whose value begins at byte v: operator and field number stand before it
abbrev pub test_at : Bytes → ℕ → Qualification
test_at list v = test (operator_of (byte list (v - 2))) (field (byte list (v - 1))) v

-- a level of the completed list, and nothing named yet
unfoldable pub above_entry : Bytes → TypeCode → ℕ → ℕ
above_entry cat t u = pick (is_in u (lineage cat t)) 1 0

-- the entry e of type u behind these arguments too: the first that names it sets it, where it is left out so far
unfoldable pub set_once : ℕ → List Argument → ℕ → ℕ → ℕ
set_once base ar u e = pick (eqb e 1) (entry_for base (wanted_of ar (code u))) e

-- the entry of type u, of a list completed down to type t
unfoldable pub entry_of : Bytes → Bytes → TypeCode → ℕ → ℕ
entry_of cat list t u = pick (is_in u (lineage cat t)) (entry_for 0 (wanted_of (list_read cat list).arguments (code u))) 0

-- a row of entries, one for each code that a type can have
pub record Row (row : Bytes) (f : ℕ → ℕ) : Type 0 where
  pub long : length row ≡ 33
  pub each : (u : ℕ) → u < 33 → byte row u ≡ f u
