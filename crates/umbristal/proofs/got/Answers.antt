use native.Mathlib.Omega.{arith}
use Rattle.umbristal.proofs.Fitting.{sound-fits, sound-left}
use Rattle.umbristal.proofs.got.Goals as goal

pub leave-requires : goal.leave-requires
leave-requires c =
    sound-fits c.args.cat.now c.args.tab.now c.args.pos.now c.args.number c.args.list.now
    c.args.area.now c.position_of-p.result
    c.position_of-p.ensures c.get_sound-a.result
    c.args.tab.now c.get_sound-a.new.area
    (λ i. omega (
      arith,
      c.shared_slice_known-2-1.given i,
    )) (λ i. omega
    (arith, c.slice_known-2-1.given i))
    c.requires.0
    c.get_sound-a.ensures

pub returns : goal.returns
returns c =
    sound-left c.args.cat.now c.args.tab.now c.args.pos.now c.args.number c.args.list.now
    c.args.area.now c.position_of-p.result c.position_of-p.ensures c.get_sound-a.result c.args.tab.now
    c.get_sound-a.new.area c.leave.result c.leave.new.block c.leave.ensures.0 c.leave.ensures.1
    c.get_sound-a.ensures
