-- Checked once, sound for good, on blocks: what specs/Session.antt states. Assumes nothing.
use mathlib.Core.Path.{◌≡◌, refl, ap, sym, ◌∙◌, subst}
use mathlib.Core.Bool.{true}
use mathlib.Core.List.{[], ◌∷◌}
use Rattle.terms.specs.declared.Position.{Position}
use Rattle.rules.specs.Block.{Bytes}
use Rattle.rules.specs.Table.{listing}
use Rattle.rules.specs.Position.{good_position, position_of}
use Rattle.rules.specs.Outcome.{Outcome, outcome, block_after}
use Rattle.rules.proofs.Block.{block_read}
use Rattle.model.specs.Kept.{Kept}
use Rattle.model.proofs.Kept.{tables-stay-good}
use Rattle.model.proofs.Session.{sound-same}
use Rattle.demands.proofs.Demand1.{demand1}
use Rattle.umbristal.specs.Face.{handed_back_of, face, sound_face}
use Rattle.umbristal.specs.Session.{face_session, FaceCheckedOnce}

-- THEOREM: a session on good blocks is the session without the checks
pub face-checked-once : FaceCheckedOnce
unfolding face_session face sound_face
face-checked-once cat tab block [] g bytes full good here = refl
face-checked-once cat tab block (k ∷ ks) g bytes full good here =
    let pos : Position = position_of block in
    let o : Outcome = outcome cat tab pos k.call k.list k.area in
    let kept : Kept cat tab k.area k.call o = tables-stay-good cat tab pos k.call k.list k.area g bytes full.0 good here in
    let next : Bytes = block_after block o.answer in
    let read : position_of next ≡ o.answer.position =
    block_read block o.answer (λ h. ((demand1.answers cat tab pos k.call k.list k.area).refusal h).position) in
    let there : good_position cat (listing cat o.table) (position_of next) ≡ true =
    subst (λ (p : Position). good_position cat (listing cat o.table) p ≡ true) (sym read) kept.position in
    ap (◌∷◌ (handed_back_of block o)) (face-checked-once cat o.table next ks g kept.bytes full.1 kept.table there)
    ∙ ap (λ (p : Outcome). handed_back_of block p ∷ face_session sound_face cat (handed_back_of block p).table (handed_back_of block p).block ks)
    (sound-same cat tab pos g good here k.call k.list k.area)
