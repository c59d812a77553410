-- A refusal before the call comes back alone, and where there is none the two promises are one. Assumes nothing.
use mathlib.Core.Path.{◌≡◌, refl, ap, ◌∙◌}
use mathlib.Core.Bool.{Bool, true, false, not}
use Prim.Native.Nat.{ℕ, ◌+◌, ◌*◌, ◌≤◌}
use native.Mathlib.Omega.{arith}
use borrow.Author.Tests.{le-leb}
use Rattle.terms.specs.declared.Position.{Position}
use Rattle.terms.specs.declared.Status.{Status}
use Rattle.terms.specs.declared.Status.TheVariants.{Blank, CX, TX, PX}
use Rattle.terms.specs.Choice.{pick}
use Rattle.terms.specs.Statuses.{number}
use Rattle.rules.specs.Block.{Bytes}
use Rattle.rules.specs.Catalogue.{good_catalogue}
use Rattle.rules.specs.Table.{listing, good_table}
use Rattle.rules.specs.Position.{good_position, position_of}
use Rattle.rules.specs.Calls.{bare}
use Rattle.rules.specs.Outcome.{unsound, block_after}
use Rattle.answers.specs.Told.{stopped_answer}
use Rattle.answers.specs.Ready.{made}
use Rattle.dli.proofs.Calls.{call-stopped, call-on}
use Rattle.umbristal.specs.Face.{handed_back, handed_back_of, face, sound_face, packed}

-- a refusal before the call is one of 20, 21 and 22
unsound-high : (cat tab : Bytes) (pos : Position) → (number (unsound cat tab pos) ≡ 0 → ⊥) → 20 ≤ number (unsound cat tab pos)
unfolding unsound
unsound-high cat tab pos n = high (good_catalogue cat) (good_table cat tab) (good_position cat (listing cat tab) pos) n
  where
    high : (a b c : Bool) → (number (pick (not a) CX (pick (not b) TX (pick (not c) PX Blank))) ≡ 0 → ⊥)
        → 20 ≤ number (pick (not a) CX (pick (not b) TX (pick (not c) PX Blank)))
    high false b c n = omega arith
    high true false c n = omega arith
    high true true false n = omega arith
    high true true true n = absurd (n refl)

-- nothing but the number of a refusal of 20 and above comes back
number-alone : (n : ℕ) → n ≡ n + 256 * 0 + 65536 * 0 + 16777216 * 0 + 4294967296 * 0
number-alone n = omega arith

module _ (tab block area : Bytes) (pos : Position) (s : Status) (h : 20 ≤ number s) where
  bare-back : handed_back (number s) tab block area ≡ handed_back_of block (made (bare s pos) tab area)
  unfolding packed block_after
  bare-back = rw (le-leb 20 (number s) h) (ap (λ (n : ℕ). handed_back n tab block area) (number-alone (number s)))

  refused-back : handed_back (number s) tab block area ≡ handed_back_of block (made (stopped_answer s pos) tab area)
  refused-back = rw (le-leb 20 (number s) h) bare-back

-- as the code has it: s is the status of the check, n its number
module _ (cat tab block : Bytes) (c : ℕ) (list area : Bytes) (s : Status) (n : ℕ) (e : s ≡ unsound cat tab (position_of block)) (h : n ≡ number s) where
  pub refused-left : (n ≡ 0 → ⊥) → (r : ℕ) → r ≡ number s → handed_back r tab block area ≡ face cat tab block c list area
  unfolding face
  refused-left z r w =
      let k : 20 ≤ number s = rw e (unsound-high cat tab (position_of block) (λ q. z (h ∙ ap number e ∙ q))) in
      ap (λ (m : ℕ). handed_back m tab block area) w
      ∙ refused-back tab block area (position_of block) s k
      ∙ ap (handed_back_of block) (call-stopped cat tab (position_of block) c list area s n e h z)

  pub sound-as-any : n ≡ 0 → sound_face cat tab block c list area ≡ face cat tab block c list area
  unfolding face sound_face
  sound-as-any z = ap (handed_back_of block) (call-on cat tab (position_of block) c list area s n e h z)
