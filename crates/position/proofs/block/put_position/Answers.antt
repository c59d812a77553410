use Rattle.std.proofs.Common.{rules, ◌≡◌}
use Rattle.terms.specs.Choice.{pick}
use Rattle.position.specs.Block.{parentage_kind, parentage_number}
use Rattle.position.proofs.Parts.{position-put}
use Rattle.position.proofs.block.put_position.Goals as goal

pub returns : goal.returns
returns c =
    let j : c.map_or-j.result ≡ parentage_number c.args.p.parentage = search rules in
    let m : c.from.result ≡ parentage_kind c.args.p.parentage = search rules in
    let h : c.from-2.result ≡ pick c.args.p.hold 1 0 = search rules in
    position-put c.args.block.now c.args.p _ _ _ _ _ c.requires c.cell-i.ensures j c.place_kind.ensures m h
