-- A draft as it is kept in one array, and what one line more leaves of it. Assumes nothing: these are definitions.
use Rattle.std.specs.Prelude.{◌≡◌, [], ◌∷◌, ℕ, ◌+◌, ◌*◌, ◌≤◌, ◌<◌, eqb, length, Result, Ok, Err, OnOk}
use Rattle.std.proofs.lemmas.List.Edits.{sets}
use Rattle.terms.specs.Choice.{pick}
use Rattle.rules.specs.Block.{Bytes, byte, part}
use Rattle.rules.specs.Catalogue.{types, fields}
use Rattle.catalogue_check.specs.Levelled.{Ready}
use Rattle.statements.specs.Draft.{Draft, header, rows, Fault as Kind, Taken, goes, bad, misplaced, twice, orphan, unruled}
use Rattle.dbd_draft.specs.declared.Fault.{Fault}
use Rattle.dbd_draft.specs.declared.Fault.TheVariants.{Misplaced, Twice, Orphan, Unruled}

-- T and F stand where a catalogue has them; then the types from byte 8 on, the fields, the data base's name, and the names of types and fields. A name
-- begins with a letter, so that a zero says that there was no DBD
unfoldable pub draft_of : Bytes → Draft
draft_of b = record {
  base = pick (eqb (byte b 520) 0) [] (part b 520 8);
  types = rows 8 b 8 (types b);
  fields = rows 4 b 264 (fields b);
  segment_names = rows 8 b 528 (types b);
  field_names = rows 8 b 784 (fields b);
}

-- what is kept besides: the header, no more than there is room for, the levels of the types, an L that lets no number above 120 pass, and no type
-- without DBD
pub record Sound (b levels : Bytes) : Type 0 where
  pub long : length b ≡ 1296
  pub few : types b ≤ 32
  pub few_fields : fields b ≤ 64
  pub headed : part b 0 8 ≡ header 0x43 (types b) (fields b)
  pub ready : Ready b levels (types b)
  pub low : byte b (8 * types b + 1) ≤ 120
  pub based : 0 < types b → 0 < byte b 520

-- a name of 1 to 8 bytes, the first of which is no zero
pub record Named (w : Bytes) : Type 0 where
  pub some : 0 < byte w 0
  pub begun : 0 < length w
  pub few : length w ≤ 8

-- R78: a fault as the rules have it
abbrev pub kind_of : Fault → Kind
kind_of Misplaced = misplaced
kind_of Twice = twice
kind_of Orphan = orphan
kind_of Unruled = unruled

-- what became of a line, with the draft behind it
abbrev pub told : Result (Unit {0}) Fault → Draft → Taken
told (Ok _) d = goes d
told (Err f) d = bad (kind_of f)

-- R78: the numbers of the faults
abbrev pub fault_of : Fault → ℕ
fault_of Misplaced = 1
fault_of Twice = 2
fault_of Orphan = 3
fault_of Unruled = 20

-- a line was taken as the definition has it, and what is kept is sound again unless the line was bad
pub record Left (r : Result (Unit {0}) Fault) (b levels : Bytes) (t : Taken) : Type 0 where
  pub same : told r (draft_of b) ≡ t
  pub sound : OnOk r (Sound b levels)

-- the last type has this key, and all else is as it was
abbrev pub Keyed : Bytes → ℕ → ℕ → ℕ → Bytes → Type 0
Keyed b kind start long c = c ≡ sets b (8 * types b + 2) (kind ∷ start ∷ long ∷ 0 ∷ 0 ∷ 0 ∷ [])
