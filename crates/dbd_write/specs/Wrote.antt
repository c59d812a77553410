-- A text that is written into a buffer where there is room for it. Assumes nothing: these are definitions.
use Rattle.std.specs.Prelude.{◌≡◌, ◌++◌, ℕ, zero, suc, ◌+◌, ◌*◌, ◌≤◌, ◌<◌, eqb, length}
use Rattle.std.proofs.lemmas.List.Edits.{sets}
use Rattle.terms.specs.Choice.{pick}
use Rattle.terms.specs.Names.{code}
use Rattle.rules.specs.Block.{Bytes}
use Rattle.rules.specs.Catalogue.{types, fields, parent_of}
use Rattle.statements.specs.Text.{bytes_of}

-- the buffer before and after, and the place behind the text; the text is there if all up to that place had room
pub record Wrote (i : ℕ) (text before : Bytes) (next : ℕ) (after : Bytes) : Type 0 where
  pub place : next ≡ i + length text
  pub long : length after ≡ length before
  pub bytes : next ≤ length before → after ≡ sets before i text

-- the list has a name for each type and field
pub record Fit (cat names : Bytes) : Type 0 where
  pub few : types cat ≤ 32
  pub few_fields : fields cat ≤ 64
  pub long : length names ≡ 16 + 8 * types cat + 8 * fields cat

-- every parent is a type, or none
abbrev pub Lower : Bytes → Type 0
Lower cat = (k : ℕ) → 0 < k → k ≤ types cat → (parent_of cat (code k)).0 ≤ types cat

-- a field's name in its line, with SEQ for a kind that is not 0
unfoldable pub name_part : Bytes → ℕ → Bytes
name_part w zero = w
name_part w (suc k) = bytes_of "(" ++ w ++ pick (eqb k 0) (bytes_of ",SEQ,U)") (bytes_of ",SEQ,M)")
