-- Checked once, sound for good: what specs/Session.antt states. Assumes nothing.
use mathlib.Core.Path.{◌≡◌, refl, ap, ◌∙◌}
use mathlib.Core.Bool.{true}
use mathlib.Core.List.{[], ◌∷◌}
use Prim.Native.Nat.{ℕ}
use Rattle.terms.specs.declared.Position.{Position}
use Rattle.terms.specs.declared.Status.TheVariants.{Blank}
use Rattle.rules.specs.Block.{Bytes}
use Rattle.rules.specs.Catalogue.{good_catalogue}
use Rattle.rules.specs.Table.{listing, good_table}
use Rattle.rules.specs.Position.{good_position}
use Rattle.rules.specs.Outcome.{Outcome, unsound, outcome, sound_outcome}
use Rattle.rules.proofs.Outcome.{sound-outcome}
use Rattle.model.specs.Kept.{Kept}
use Rattle.model.specs.Session.{session, CheckedOnce}
use Rattle.model.proofs.Kept.{tables-stay-good}

module _ (cat tab : Bytes) (pos : Position) (g : good_catalogue cat ≡ true) (good : good_table cat tab ≡ true)
    (here : good_position cat (listing cat tab) pos ≡ true) where
  -- 20, 21 and 22 are not given
  sound-blank : unsound cat tab pos ≡ Blank
  unfolding unsound
  sound-blank = rw (g, good, here)

  -- LAW: so the call that does not look at them has the same outcome
  pub sound-same : (c : ℕ) (list area : Bytes) → outcome cat tab pos c list area ≡ sound_outcome cat tab pos c list area
  sound-same c list area = sound-outcome cat tab pos c list area sound-blank

-- THEOREM: a session on good blocks is the session without the checks
pub checked-once : CheckedOnce outcome
unfolding session
checked-once cat tab pos [] g bytes full good here = refl
checked-once cat tab pos (k ∷ ks) g bytes full good here =
    let o : Outcome = outcome cat tab pos k.call k.list k.area in
    let kept : Kept cat tab k.area k.call o = tables-stay-good cat tab pos k.call k.list k.area g bytes full.0 good here in
    ap (◌∷◌ o) (checked-once cat o.table o.answer.position ks g kept.bytes full.1 kept.table kept.position)
    ∙ ap (λ (p : Outcome). p ∷ session sound_outcome cat p.table p.answer.position ks) (sound-same cat tab pos g good here k.call k.list k.area)
