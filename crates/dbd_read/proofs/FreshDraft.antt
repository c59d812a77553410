-- The draft before the first line: a header without types and fields, and zeros. Assumes nothing.
use mathlib.Core.Path.{◌≡◌, refl}
use mathlib.Core.List.{[], ◌∷◌, ◌++◌}
use native.Mathlib.Omega.{arith}
use lib.ListN.{drop, replicate}
use Rattle.rules.specs.Block.{Bytes}
use Rattle.rules.specs.Catalogue.{types, fields}
use Rattle.catalogue.proofs.Levels.{levels-none}
use Rattle.catalogue_check.specs.Levelled.{Ready}
use Rattle.statements.specs.Draft.{blank, header, rows}
use Rattle.dbd_draft.specs.Kept.{draft_of, Sound}
use Rattle.dbd_read.specs.Reading.{Fresh}

abbrev first : Bytes
first = (0x48 ∷ 0x44 ∷ 0x43 ∷ 0 ∷ 1 ∷ []) ++ drop 5 (replicate 1296 0)

first-ready : Ready first (replicate 33 0) 0
first-ready = record { ordered = record { few = omega arith; within = omega arith; lower = refl }; levels = levels-none first }

first-sound : Sound first (replicate 33 0)
unfolding types fields header
first-sound = record {
  long = refl;
  few = omega arith;
  few_fields = omega arith;
  headed = refl;
  ready = first-ready;
  low = omega arith;
  based = λ z. absurd (omega arith);
}

first-blank : draft_of first ≡ blank
unfolding draft_of types fields rows blank
first-blank = refl

pub fresh : (b : Bytes) → b ≡ (0x48 ∷ 0x44 ∷ 0x43 ∷ 0 ∷ 1 ∷ []) ++ drop 5 (replicate 1296 0) → Fresh b (replicate 33 0)
fresh b e = rw e (record { sound = first-sound; empty = first-blank })
