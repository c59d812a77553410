use mathlib.Core.Path.{ap, sym, ◌∙◌}
use Prim.Native.Nat.{◌*◌}
use native.Mathlib.Omega.{arith}
use Rattle.rules.specs.Block.{byte}
use Rattle.rules.specs.Catalogue.{types}
use Rattle.statements.specs.Draft.{ruled_type, with_type}
use Rattle.dbd_draft.specs.Kept.{draft_of}
use Rattle.dbd_draft.proofs.Judgements.{left-bad, left_as, place_is, tail-room, same_word, root_is_first, parent_is_there}
use Rattle.dbd_draft.proofs.Judgements.{segm-early, segm-second, segm-known, segm-alone, segm-ruled}
use Rattle.dbd_draft.proofs.segments.take_segm.Goals as goal

pub returns-then-draft-eq0 : goal.returns-then-draft-eq0
returns-then-draft-eq0 c = left-bad _ _ _ _ (segm-early _ _ c.requires.sound _ _ _ c.if-draft-eq0.true)

pub returns-then-top-gt0 : goal.returns-then-top-gt0
unfolding types
returns-then-top-gt0 c =
    left-bad _ _ _ _
    (segm-second _ _ c.requires.sound _ _ _ c.if-draft-eq0.false _ (same_word _ _ _ _ c.eq-root.ensures c.as_slice.ensures) c.if-root.true c.if-top-gt0.true)

pub place_of-requires : goal.place_of-requires
unfolding types
place_of-requires c =
    tail-room c.args.draft.now 528 (8 * byte c.args.draft.now 5) (omega arith)

pub returns-then-place_of-ne0 : goal.returns-then-place_of-ne0
unfolding types
returns-then-place_of-ne0 c =
    left-bad _ _ _ _
    (segm-known _ _ c.requires.sound _ _ _ c.if-draft-eq0.false _ (same_word _ _ _ _ c.eq-root.ensures c.as_slice.ensures)
    (root_is_first _ _ c.else-root.either)
    _ (place_is _ _ _ _ c.filled-name.ensures c.place_of.ensures) c.if-place_of-ne0.true)

pub place_of-above-requires : goal.place_of-above-requires
unfolding types
place_of-above-requires c =
    tail-room c.args.draft.now 528 (8 * byte c.args.draft.now 5) (omega arith)

pub returns-then-above-eq0 : goal.returns-then-above-eq0
unfolding types
returns-then-above-eq0 c =
    left-bad _ _ _ _
    (segm-alone _ _ c.requires.sound _ _ _ c.if-draft-eq0.false _ (same_word _ _ _ _ c.eq-root.ensures c.as_slice.ensures)
    (root_is_first _ _ c.else-root.either)
    _ (place_is _ _ _ _ c.filled-name.ensures c.place_of.ensures) c.if-place_of-ne0.false
    _ (place_is _ _ _ _ c.filled.ensures c.place_of-above.ensures) c.if-not-root.true c.if-above-eq0.true)

pub returns : goal.returns
unfolding types
returns c =
    left_as _ _ _ _ _ c.add_type.ensures
    (segm-ruled _ _ c.requires.sound _ _ _ c.if-draft-eq0.false _ (same_word _ _ _ _ c.eq-root.ensures c.as_slice.ensures)
    (root_is_first _ _ c.else-root.either)
    _ (place_is _ _ _ _ c.filled-name.ensures c.place_of.ensures) c.if-place_of-ne0.false
    _ (place_is _ _ _ _ c.filled.ensures c.place_of-above.ensures) (parent_is_there _ _ c.else-not-root.either)
    ∙ ap (λ n. ruled_type (with_type (draft_of c.args.draft.now) n c.place_of-above.result c.args.long)) (sym c.filled-name.ensures))
