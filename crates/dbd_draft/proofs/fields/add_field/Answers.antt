use mathlib.Core.List.{[], ◌∷◌}
use mathlib.Core.Path.{refl, ap}
use Prim.Native.Nat.{◌+◌, ◌*◌}
use native.Mathlib.Omega.{arith}
use lib.ListN.{length}
use lib.Seq.{length-sets}
use Rattle.rules.specs.Block.{byte}
use Rattle.rules.specs.Catalogue.{types, fields}
use Rattle.dbd_draft.proofs.Judgements.{field-kept}
use Rattle.dbd_draft.proofs.fields.add_field.Goals as goal

pub write-requires-2 : goal.write-requires-2
unfolding types fields
write-requires-2 c =
    let ·args = c.args
    in
    omega (
      arith,
      ap length c.write.ensures,
      length-sets ·args.draft.now
          (264 + 4 * c.wide.result)
          (byte ·args.draft.now 5 ∷ ·args.start ∷ ·args.long ∷ 0 ∷ []),
    )

pub overflow_add-draft : goal.overflow_add-draft
unfolding types fields
overflow_add-draft c = omega arith

pub returns : goal.returns
unfolding types fields
returns c =
    let k = field-kept _ _ c.requires.sound c.args.name.now c.args.long c.args.start (omega arith) c.requires.room _ _ _ c.write-2.new.block
    c.wide.ensures.0 c.wide-2.ensures.0 c.write.ensures c.write-2.ensures _ refl in
    record { sound = k.0; added = k.1 }
