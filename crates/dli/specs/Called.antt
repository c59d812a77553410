-- A call of which nothing is left to refuse beforehand: what it asks, and what it leaves. Assumes nothing: these are definitions.
use Rattle.std.specs.Prelude.{◌≡◌, Bool, true, false, List, ℕ, suc, ◌≤◌, eqb, length}
use Rattle.terms.specs.declared.Position.{Position}
use Rattle.terms.specs.declared.Status.TheVariants.{Blank}
use Rattle.terms.specs.Choice.{pick}
use Rattle.terms.specs.Moves.{is_absent}
use Rattle.rules.specs.Block.{Bytes}
use Rattle.rules.specs.Table.{room, listing}
use Rattle.rules.specs.Position.{good_position}
use Rattle.rules.specs.Arguments.{Level, list_read, get_levels}
use Rattle.rules.specs.Calls.{After, get_unique, get_next, get_next_within, called}
use Rattle.rules.specs.Outcome.{Outcome, misused, landed}
use Rattle.cells.specs.Sound.{Sound}
use Rattle.answers.specs.Ready.{Ready}

module _ (cat tab : Bytes) where
  -- sound blocks with their cell size, a good position, and none of the refusals of what is asked, in whatever order they were looked at
  pub record Callable (size : ℕ) (pos : Position) (c : ℕ) (list area : Bytes) : Type 0 where
    pub sound : Sound cat tab size
    pub position : good_position cat (listing cat tab) pos ≡ true
    pub asked : misused cat pos c list area ≡ Blank

  -- the call of this number itself
  unfoldable pub called_after : Position → ℕ → Bytes → Bytes → After
  called_after pos c list area = called cat (listing cat tab) pos area (room cat tab) c list (list_read cat list).arguments

  unfoldable pub called_outcome : Position → ℕ → Bytes → Bytes → Outcome
  called_outcome pos c list area = landed cat tab (called_after pos c list area)

  -- the gets are numbered 1, 2, 3, and from 4 on once more with hold: what each of the three asks
  pub record Getting (size : ℕ) (pos : Position) (form : ℕ) (list area : Bytes) : Type 0 where
    pub ready : Ready cat tab size pos list
    pub long : size ≤ suc (length area)
    pub parent : (form ≡ 1 → ⊥) → (form ≡ 2 → ⊥) → is_absent pos.parentage ≡ false

  -- and what it does
  unfoldable pub get_of : Position → ℕ → Bytes → Bytes → Bool → After
  get_of pos form list area hold =
      let ls : List Level = get_levels cat list (list_read cat list).arguments in
      pick (eqb form 1) (get_unique cat (listing cat tab) pos area hold ls)
      (pick (eqb form 2) (get_next cat (listing cat tab) pos area hold ls) (get_next_within cat (listing cat tab) pos area hold ls))
