use mathlib.Core.Path.{ap, ◌∙◌}
use Rattle.rules.specs.Outcome.{landed}
use Rattle.dli.proofs.Calls.{getting, getting-hold, got-plain, got-hold}
use Rattle.dli.proofs.called_get_sound.Goals as goal

pub get-requires : goal.get-requires
get-requires c = getting c.args.cat.now c.args.tab.now c.args.pos c.args.number c.args.list.now c.args.area.now
    c.requires.0 c.if-number-lt4.true

pub returns-then-number-lt4 : goal.returns-then-number-lt4
returns-then-number-lt4 c = ap (landed c.args.cat.now c.args.tab.now) c.get.ensures ∙ got-plain c.args.cat.now c.args.tab.now
    c.args.pos c.args.number c.args.list.now c.args.area.now c.requires.0 c.if-number-lt4.true

pub get-requires-2 : goal.get-requires-2
get-requires-2 c = getting-hold c.args.cat.now c.args.tab.now c.args.pos c.args.number c.args.list.now c.args.area.now
    c.requires.0 c.if-number-lt4.false c.requires.1

pub returns : goal.returns
returns c = ap (landed c.args.cat.now c.args.tab.now) c.get-2.ensures ∙ got-hold c.args.cat.now c.args.tab.now
    c.args.pos c.args.number c.args.list.now c.args.area.now c.requires.0 c.if-number-lt4.false c.requires.1
