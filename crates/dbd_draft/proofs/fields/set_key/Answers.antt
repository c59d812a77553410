use native.Mathlib.Omega.{arith}
use Rattle.rules.specs.Catalogue.{types}
use Rattle.dbd_draft.proofs.Judgements.{key-kept}
use Rattle.dbd_draft.proofs.fields.set_key.Goals as goal

pub write-requires : goal.write-requires
unfolding types
write-requires c = omega arith

pub returns : goal.returns
unfolding types
returns c =
    let k = key-kept _ _ c.requires.sound c.requires.typed c.args.kind c.args.start c.args.long _ _ c.wide.ensures.0 c.write.ensures in
    record { sound = k.0; keyed = k.1 }
