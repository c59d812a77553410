use native.Mathlib.Omega.{arith}
use Rattle.umbristal.proofs.Fitting.{sound-fits, sound-left}
use Rattle.umbristal.proofs.changed.Goals as goal

pub leave-requires : goal.leave-requires
leave-requires c =
    sound-fits c.args.cat.now c.args.tab.now c.args.pos.now c.args.number c.args.list.now
    c.args.area.now c.position_of-p.result
    c.position_of-p.ensures c.change_sound-a.result
    c.change_sound-a.new.tab c.args.area.now
    (λ i. omega (
      arith,
      c.slice_known-1.given i,
    )) (λ i. omega (
      arith,
      c.shared_slice_known-3-1.given
          i,
    )) c.requires.0
    c.change_sound-a.ensures

pub returns : goal.returns
returns c =
    sound-left c.args.cat.now c.args.tab.now c.args.pos.now c.args.number c.args.list.now
    c.args.area.now c.position_of-p.result c.position_of-p.ensures c.change_sound-a.result
    c.change_sound-a.new.tab c.args.area.now c.leave.result c.leave.new.block c.leave.ensures.0
    c.leave.ensures.1 c.change_sound-a.ensures
