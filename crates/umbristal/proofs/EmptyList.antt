-- GN with an empty list on sound blocks: nothing refuses it, and what it leaves is what the calls promise. Assumes nothing.
use mathlib.Core.Path.{◌≡◌, refl, ap, sym, ◌∙◌, subst}
use mathlib.Core.Bool.{true, false, ◌&&◌}
use mathlib.Core.List.{[]}
use Prim.Native.Nat.{ℕ, suc, ◌-◌, ◌<◌, ◌≤◌}
use native.Mathlib.Omega.{arith}
use lib.Dec.{leb, eqb}
use lib.ListN.{length}
use borrow.Author.Tests.{le-ltb, eqb-true, leb-true}
use Rattle.terms.specs.declared.Position.{Position}
use Rattle.terms.specs.declared.Status.TheVariants.{Blank}
use Rattle.terms.specs.declared.Answer.{Answer}
use Rattle.forest.specs.Good.{both_left, both_right}
use Rattle.rules.specs.Block.{Bytes, byte}
use Rattle.rules.specs.Table.{cell_size, listing}
use Rattle.rules.specs.Arguments.{ListRead}
use Rattle.rules.specs.Calls.{get_next}
use Rattle.rules.specs.Outcome.{misused, sound_outcome, landed}
use Rattle.cells.proofs.Located.{good-housed}
use Rattle.catalogue.proofs.Hierarchy.{cell-least}
use Rattle.arguments.specs.Sound.{SoundList}
use Rattle.arguments.proofs.Sound.{list-empty}
use Rattle.refusals.specs.Refusals.{too_short, misused_get}
use Rattle.refusals.proofs.Order.{get-misused}
use Rattle.answers.specs.Ready.{SoundFor, Ready, made, left as left_by}
use Rattle.gets.proofs.Gotten.{ready-none, next-empty}
use Rattle.dli.proofs.Calls.{five-in, callable, ready, did-next}
use Rattle.umbristal.specs.Face.{sound_face, is_step}

-- the test, as the code meets it
module _ (tab : Bytes) (c : ℕ) (list area : Bytes) where
  module _ (e : is_step tab c list area ≡ true) where
    pub step-two : c ≡ 2
    unfolding is_step
    step-two = eqb-true c 2 (both_left (eqb c 2) (eqb (length list) 0) (both_left (eqb c 2 && eqb (length list) 0) (leb (byte tab 5 - 1) (length area)) e))

    step-empty : length list ≡ 0
    unfolding is_step
    step-empty = eqb-true (length list) 0 (both_right (eqb c 2) (eqb (length list) 0) (both_left (eqb c 2 && eqb (length list) 0) (leb (byte tab 5 - 1) (length area)) e))

    step-long : byte tab 5 - 1 ≤ length area
    unfolding is_step
    step-long = leb-true (byte tab 5 - 1) (length area) (both_right (eqb c 2 && eqb (length list) 0) (leb (byte tab 5 - 1) (length area)) e)

module _ (cat tab : Bytes) (pos : Position) (list area : Bytes) (f : SoundFor cat tab pos) where
  pub sizes-in : (5 < length tab) × (1 ≤ byte tab 5)
  sizes-in = (five-in cat tab pos 2 list area f, omega (arith, cell-least cat f.catalogue, (good-housed cat tab f.table).told))

  module _ (e : is_step tab 2 list area ≡ true) where
    list-sound : SoundList cat list
    list-sound = record { catalogue = f.catalogue; read = ap (λ (l : ListRead). l.fault) (list-empty cat list (step-empty tab 2 list area e)) }

    none-misused : Blank ≡ misused cat pos 2 list area
    unfolding misused_get too_short
    none-misused =
        let l : cell_size cat - 1 ≤ length area = omega (arith, step-long tab 2 list area e, (good-housed cat tab f.table).told) in
        sym (sym (get-misused cat pos 2 list area (cell_size cat) refl list-sound (λ z. omega arith) (omega arith)) ∙ rw (le-ltb (length area) (cell_size cat - 1) l))

    asked : (size : ℕ) → size ≡ byte tab 5 → Ready cat tab size pos list
    asked size w = ready cat tab pos 2 list area (callable cat tab pos 2 list area f Blank 0 none-misused refl refl size w)

    pub step-ready : (size : ℕ) → size ≡ byte tab 5 → Ready cat tab size pos [] × (size ≤ suc (length area))
    step-ready size w = (ready-none (asked size w), omega (arith, step-long tab 2 list area e))

    pub step-made : (a : Answer) (r : Bytes) → left_by a r ≡ get_next cat (listing cat tab) pos area false [] → made a tab r ≡ sound_outcome cat tab pos 2 list area
    step-made a r h =
        ap (landed cat tab) (h ∙ next-empty (asked (byte tab 5) refl) area false (step-empty tab 2 list area e))
        ∙ did-next cat tab pos 2 list area f Blank 0 none-misused refl refl refl

-- the promise for the number that the test accepted
pub step_left : (cat tab block : Bytes) (c : ℕ) (list area : Bytes) → is_step tab c list area ≡ true → sound_face cat tab block 2 list area ≡ sound_face cat tab block c list area
step_left cat tab block c list area e = ap (λ (n : ℕ). sound_face cat tab block n list area) (sym (step-two tab c list area e))

pub step_is : (tab : Bytes) (c : ℕ) (list area : Bytes) → is_step tab c list area ≡ true → is_step tab 2 list area ≡ true
step_is tab c list area e = subst (λ (n : ℕ). is_step tab n list area ≡ true) (step-two tab c list area e) e
