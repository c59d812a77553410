-- A spoiled list is refused and stays spoiled: what specs/Spoiled.antt states. Assumes nothing.
use mathlib.Core.Path.{◌≡◌, refl}
use mathlib.Core.Bool.{not, ◌&&◌}
use mathlib.Core.List.{[], ◌∷◌, ◌++◌}
use Prim.Native.Nat.{ℕ, zero, suc, ◌+◌, ◌<◌}
use native.Mathlib.Omega.{arith}
use lib.Dec.{leb, eqb}
use lib.ListN.{length, take}
use borrow.Author.Tests.{lt-leb}
use Rattle.terms.specs.declared.Status.TheVariants.{AC}
use Rattle.terms.specs.Names.{field}
use Rattle.rules.specs.Block.{Bytes, byte}
use Rattle.rules.specs.Catalogue.{is_type, field_length}
use Rattle.rules.specs.Arguments.{good_next, argument_at, arguments_from, list_read}
use Rattle.rules.proofs.Choice.{pick-of}
use Rattle.parts.specs.Lists.{built, written, spoiled, with_argument, list_all, list_test}
use Rattle.parts.specs.Spoiled.{Spoiled, SpoiledRefused, SpoiledForGood}

-- LAW: type 0 at the front is a fault, before anything else is read
refused : (cat rest : Bytes) → (list_read cat (0 ∷ rest)).fault ≡ AC
unfolding list_read arguments_from argument_at good_next is_type
refused cat rest = rw (list_read, arguments_from, lt-leb (suc (length rest)) 0 (omega arith))

front : (used : ℕ) (b more : Bytes) (cat : Bytes) → 0 < used → 0 < length b → byte b 0 ≡ 0 → (list_read cat (take used b ++ more)).fault ≡ AC
front zero b more cat u l e = absurd (omega arith)
front (suc n) [] more cat u l e = absurd (omega arith)
front (suc n) (x ∷ b) more cat u l e = rw e (refused cat (take n b ++ more))

-- THEOREM
pub spoiled-refused : SpoiledRefused
spoiled-refused = record {
  any = refused;
  built = λ x s cat more. front x.used x.buffer more cat s.begun s.there s.typeless;
}

spoils : (b : Bytes) → Spoiled (spoiled b)
spoils b = record { begun = omega arith; there = omega arith; typeless = refl }

-- bytes that are written behind the first one leave it
kept : (b : Bytes) (used : ℕ) (bytes : Bytes) → Spoiled (built used b) → Spoiled (built (used + length bytes) (written b used bytes))
unfolding written
kept [] used bytes s = absurd (omega (arith, s.there))
kept (x ∷ b) zero bytes s = absurd (omega (arith, s.begun))
kept (x ∷ b) (suc n) bytes s = record { begun = omega arith; there = omega arith; typeless = s.typeless }

added : (b : Bytes) (used : ℕ) (argument : Bytes) → Spoiled (built used b) → Spoiled (with_argument b used argument)
unfolding with_argument
added b used argument s = pick-of Spoiled (leb (used + length argument) 1845) _ _ (kept b used argument s) (spoils b)

-- THEOREM
pub spoiled-for-good : SpoiledForGood
unfolding list_all list_test
spoiled-for-good = record {
  spoils = spoils;
  all = λ x s code. added x.buffer x.used (code ∷ 0 ∷ []) s;
  test = λ x s cat code operator f value.
      pick-of Spoiled (not (eqb operator 0) && eqb (length value) (field_length cat (field f))) _ _
      (added x.buffer x.used (code ∷ operator ∷ f ∷ value) s) (spoils x.buffer);
}
