-- The position's block, read and written part by part. Assumes nothing.
use Rattle.std.specs.Prelude.{None, Some}
use mathlib.Core.Path.{◌≡◌, refl, sym, ◌∙◌}
use mathlib.Core.Bool.{true, true≢false}
use mathlib.Core.List.{[], ◌∷◌, ◌++◌}
use Prim.Native.Nat.{ℕ, ◌+◌, ◌*◌, ◌/◌, ◌%◌, ◌≤◌}
use native.Mathlib.Omega.{arith}
use lib.Dec.{eqb, leb}
use lib.ListN.{length, set}
use borrow.Author.Tests.{eq-eqb, eqb-true, eqb-false, leb-true}
use Rattle.terms.specs.declared.CellNumber.{CellNumber}
use Rattle.terms.specs.declared.Place.{Place}
use Rattle.terms.specs.declared.Place.TheVariants.{On, Before}
use Rattle.terms.specs.declared.Position.{Position}
use Rattle.terms.specs.Choice.{pick}
use Rattle.terms.specs.Names.{Parentage}
use Rattle.terms.specs.Moves.{place_cell, place_number, after_place, is_on}
use Rattle.forest.specs.Good.{on, off, is}
use Rattle.rules.specs.Block.{Bytes, byte}
use Rattle.rules.specs.Position.{place_bytes, parentage_bytes, position_bytes, good_block, position_of}
use Rattle.position.specs.Block.{place_kind, parentage_kind, parentage_number, Writable}

-- of a good block: its place alone
module _ (b : Bytes) (e : good_block b ≡ true) where
  pub good-long : length b ≡ 8
  unfolding good_block
  good-long = elim (is (eqb (length b) 8)) [
    | on h ↦ eqb-true (length b) 8 h
    | off h ↦ absurd (true≢false (sym e ∙ rw h))
  ]

  kind-most : byte b 0 ≤ 1
  unfolding good_block
  kind-most = elim (is (leb (byte b 0) 1)) [
    | on h ↦ leb-true (byte b 0) 1 h
    | off h ↦ absurd (true≢false (sym e ∙ rw (eq-eqb (length b) 8 good-long, h)))
  ]

  pub kind-is : eqb (byte b 0) 1 ≡ is_on (position_of b).place
  unfolding position_of
  kind-is = elim (is (eqb (byte b 0) 1)) [
    | on h ↦ rw (e, h)
    | off h ↦ rw (e, h)
  ]

  pub after_is : 256 * byte b 1 + (byte b 2 + byte b 0) ≡ after_place (position_of b).place
  unfolding position_of
  after_is = elim (is (eqb (byte b 0) 1)) [
    | on h ↦ (let z : byte b 0 ≡ 1 = eqb-true (byte b 0) 1 h in rw (e, h) (omega arith))
    | off h ↦ (let z : byte b 0 ≡ 1 → ⊥ = eqb-false (byte b 0) 1 h in let y = kind-most in rw (e, h) (omega arith))
  ]

-- written: eight bytes, one after the other
abbrev pub eight_set : Bytes → ℕ → ℕ → ℕ → ℕ → ℕ → ℕ → ℕ → ℕ → Bytes
eight_set b a₀ a₁ a₂ a₃ a₄ a₅ a₆ a₇ = set (set (set (set (set (set (set (set b 0 a₀) 1 a₁) 2 a₂) 3 a₃) 4 a₄) 5 a₅) 6 a₆) 7 a₇

eight-set : (b : Bytes) (a₀ a₁ a₂ a₃ a₄ a₅ a₆ a₇ : ℕ) → length b ≡ 8 → eight_set b a₀ a₁ a₂ a₃ a₄ a₅ a₆ a₇ ≡ a₀ ∷ a₁ ∷ a₂ ∷ a₃ ∷ a₄ ∷ a₅ ∷ a₆ ∷ a₇ ∷ []
eight-set [] a₀ a₁ a₂ a₃ a₄ a₅ a₆ a₇ h = absurd (omega arith)
eight-set (a ∷ []) a₀ a₁ a₂ a₃ a₄ a₅ a₆ a₇ h = absurd (omega arith)
eight-set (a ∷ b ∷ []) a₀ a₁ a₂ a₃ a₄ a₅ a₆ a₇ h = absurd (omega arith)
eight-set (a ∷ b ∷ c ∷ []) a₀ a₁ a₂ a₃ a₄ a₅ a₆ a₇ h = absurd (omega arith)
eight-set (a ∷ b ∷ c ∷ d ∷ []) a₀ a₁ a₂ a₃ a₄ a₅ a₆ a₇ h = absurd (omega arith)
eight-set (a ∷ b ∷ c ∷ d ∷ e ∷ []) a₀ a₁ a₂ a₃ a₄ a₅ a₆ a₇ h = absurd (omega arith)
eight-set (a ∷ b ∷ c ∷ d ∷ e ∷ f ∷ []) a₀ a₁ a₂ a₃ a₄ a₅ a₆ a₇ h = absurd (omega arith)
eight-set (a ∷ b ∷ c ∷ d ∷ e ∷ f ∷ g ∷ []) a₀ a₁ a₂ a₃ a₄ a₅ a₆ a₇ h = absurd (omega arith)
eight-set (a ∷ b ∷ c ∷ d ∷ e ∷ f ∷ g ∷ i ∷ []) a₀ a₁ a₂ a₃ a₄ a₅ a₆ a₇ h = refl
eight-set (a ∷ b ∷ c ∷ d ∷ e ∷ f ∷ g ∷ i ∷ k ∷ rest) a₀ a₁ a₂ a₃ a₄ a₅ a₆ a₇ h = absurd (omega arith)

eight-bytes : (q : Place) (r : Parentage) (h : ℕ)
    → place_kind q ∷ place_number q / 256 ∷ place_number q % 256 ∷ parentage_kind r ∷ parentage_number r / 256 ∷ parentage_number r % 256 ∷ h ∷ 0 ∷ []
    ≡ place_bytes q ++ (parentage_bytes r ++ (h ∷ 0 ∷ []))
eight-bytes (On c) (Some d) h = refl
eight-bytes (On c) None h = refl
eight-bytes (Before c) (Some d) h = refl
eight-bytes (Before c) None h = refl

pub position-put : (b : Bytes) (p : Position) (c : CellNumber) (j k m h : ℕ) → Writable b p → c ≡ place_cell p.place → j ≡ parentage_number p.parentage
    → k ≡ place_kind p.place → m ≡ parentage_kind p.parentage → h ≡ pick p.hold 1 0
    → eight_set b k (c.0 / 256) (c.0 % 256) m (j / 256) (j % 256) h 0 ≡ position_bytes p
unfolding position_bytes
position-put b p c j k m h w e f g i o =
    eight-set b k (c.0 / 256) (c.0 % 256) m (j / 256) (j % 256) h 0 w.long ∙ rw (e, f, g, i, o) (eight-bytes p.place p.parentage (pick p.hold 1 0))
