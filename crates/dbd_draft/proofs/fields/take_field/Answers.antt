use Prim.Native.Nat.{◌*◌}
use native.Mathlib.Omega.{arith}
use Rattle.rules.specs.Block.{byte}
use Rattle.rules.specs.Catalogue.{types, fields}
use Rattle.dbd_draft.proofs.Judgements.{left-bad, own_is, tail-room, key_is_first, prepared-key, prepared-none, prepared-room, field-left}
use Rattle.dbd_draft.proofs.Judgements.{field-none-yet, field-second, field-known, field-many, field-bad, field-good}
use Rattle.dbd_draft.proofs.fields.take_field.Goals as goal
use Rattle.dbd_draft.proofs.fields.take_field.Goals.{then-kind-ne0-2, else-kind-ne0-2}
use Rattle.dbd_draft.proofs.fields.take_field.Goals.{then-last-ge64-via-then-last-ge64, then-last-ge64-via-else-last-ge64+then-not-good_span}

pub returns-then-top-eq0 : goal.returns-then-top-eq0
unfolding types
returns-then-top-eq0 c = left-bad _ _ _ _ (field-none-yet _ _ c.requires.sound _ _ _ _ c.if-top-eq0.true)

pub bounds-draft-entry : goal.bounds-draft-entry
unfolding types
bounds-draft-entry c = omega arith

pub returns-then-key-ne0 : goal.returns-then-key-ne0
unfolding types
returns-then-key-ne0 c =
    left-bad _ _ _ _
    (field-second _ _ c.requires.sound _ _ _ _ c.if-top-eq0.false _ c.wide-entry.ensures.0 c.if-kind-ne0.true c.if-key-ne0.true)

pub is_own-requires : goal.is_own-requires
unfolding fields
is_own-requires c =
    let ·args = c.args
    in (
      tail-room ·args.draft.now 264 (4 * byte ·args.draft.now 6) (omega arith),
      tail-room ·args.draft.now 784
          (8 * byte ·args.draft.now 6) (omega arith),
    )

pub returns-then-is_own : goal.returns-then-is_own
unfolding types
returns-then-is_own c =
    left-bad _ _ _ _
    (field-known _ _ c.requires.sound _ _ _ _ c.if-top-eq0.false c.wide-entry.result c.wide-entry.ensures.0
    (key_is_first _ _ c.else-kind-ne0.either) _ (own_is _ _ _ _ c.filled-name.ensures c.is_own.ensures) c.if-is_own.true)

pub returns-then-last-ge64 : goal.returns-then-last-ge64
unfolding types fields
returns-then-last-ge64 c =
    left-bad _ _ _ _
    (elim c.then-last-ge64.branch [
      | then-last-ge64-via-then-last-ge64 v ↦
          field-many _ _ c.requires.sound _ _ _ _ c.if-top-eq0.false c.wide-entry.result c.wide-entry.ensures.0
          (key_is_first _ _ c.else-kind-ne0.either) _ (own_is _ _ _ _ c.filled-name.ensures c.is_own.ensures)
          c.if-is_own.false v.if-last-ge64.true
      | then-last-ge64-via-else-last-ge64+then-not-good_span v ↦
          field-bad _ _ c.requires.sound _ _ _ _ c.if-top-eq0.false c.wide-entry.result c.wide-entry.ensures.0
          (key_is_first _ _ c.else-kind-ne0.either) _ (own_is _ _ _ _ c.filled-name.ensures c.is_own.ensures)
          c.if-is_own.false c.requires.word v.if-last-ge64.false _ v.good_span.ensures v.if-not-good_span.true
    ])

pub bounds-draft-entry-2 : goal.bounds-draft-entry-2
unfolding types
bounds-draft-entry-2 c = omega arith

pub set_key-requires : goal.set_key-requires
unfolding types
set_key-requires c = record { sound = c.requires.sound; typed = omega (arith, c.if-top-eq0.false) }

pub add_field-requires : goal.add_field-requires
unfolding types fields
add_field-requires c =
    let p = prepared-room _ _ c.requires.sound c.filled-name.result c.args.kind c.args.long c.args.start c.if-kind-ne0-2.draft
    (elim c.if-kind-ne0-2.branch [
      | then-kind-ne0-2 w ↦ prepared-key _ _ c.requires.sound _ _ _ _ c.if-top-eq0.false w.if-kind-ne0-2.true _ _ w.draft-is
          w.set_key.ensures.sound w.set_key.ensures.keyed
      | else-kind-ne0-2 w ↦ prepared-none _ _ c.requires.sound _ _ _ _ w.if-kind-ne0-2.false _ w.draft-is
    ])
    c.if-last-ge64.false in
    record { sound = p.0; room = p.1 }

pub returns : goal.returns
unfolding types fields
returns c =
    field-left _ _ c.requires.sound c.filled-name.result c.args.kind c.args.long c.args.start c.if-kind-ne0-2.draft
    (elim c.if-kind-ne0-2.branch [
      | then-kind-ne0-2 w ↦ prepared-key _ _ c.requires.sound _ _ _ _ c.if-top-eq0.false w.if-kind-ne0-2.true _ _ w.draft-is
          w.set_key.ensures.sound w.set_key.ensures.keyed
      | else-kind-ne0-2 w ↦ prepared-none _ _ c.requires.sound _ _ _ _ w.if-kind-ne0-2.false _ w.draft-is
    ])
    _ c.args.word.now _ c.filled-name.ensures
    (field-good _ _ c.requires.sound _ _ _ _ c.if-top-eq0.false c.wide-entry.result c.wide-entry.ensures.0
    (key_is_first _ _ c.else-kind-ne0.either) _ (own_is _ _ _ _ c.filled-name.ensures c.is_own.ensures)
    c.if-is_own.false c.requires.word c.if-last-ge64.false _ c.good_span.ensures c.if-not-good_span.false)
    (c.add_field.ensures.sound, c.add_field.ensures.added)
