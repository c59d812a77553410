use mathlib.Core.Path.{sym, ◌∙◌}
use Rattle.rules.specs.Position.{position_of}
use Rattle.umbristal.proofs.EmptyList.{sizes-in, step_is, step_left}
use Rattle.umbristal.proofs.umbristal_call_sound.Goals as goal

pub is_step-requires : goal.is_step-requires
is_step-requires c = sizes-in c.args.cat.now c.args.tab.now (position_of c.args.pos.now) c.args.list.now c.args.area.now
    c.requires

pub step-requires : goal.step-requires
step-requires c = (
  c.requires,
  step_is c.args.tab.now c.args.number c.args.list.now c.args.area.now
      (sym c.is_step.ensures ∙ c.if-is_step.true),
)

pub returns-then-is_step : goal.returns-then-is_step
returns-then-is_step c = c.step.ensures ∙ step_left c.args.cat.now c.args.tab.now c.args.pos.now c.args.number c.args.list.now
    c.args.area.now (sym c.is_step.ensures ∙ c.if-is_step.true)
