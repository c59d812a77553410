use Rattle.std.proofs.Common.{arith}
use mathlib.Core.Path.{ap, ◌∙◌}
use Rattle.rules.specs.Outcome.{is_dlet, is_held, is_isrt}
use Rattle.dli.proofs.Calls.{ready, long-enough, is-held, has-list, did-insert, did-replace, is-nine, did-delete}
use Rattle.dli.proofs.called_change_sound.Goals as goal

pub insert-requires : goal.insert-requires
insert-requires c = (
  ready c.args.cat.now c.args.tab.now c.args.pos c.args.number c.args.list.now c.args.area.now
      c.requires.0,
  long-enough c.args.cat.now c.args.tab.now c.args.pos c.args.number c.args.list.now
      c.args.area.now c.requires.0 (ap is_dlet c.in-7.is),
  has-list c.args.cat.now c.args.tab.now
      c.args.pos c.args.number c.args.list.now c.args.area.now c.requires.0 (ap is_isrt c.in-7.is),
)

pub replace-requires : goal.replace-requires
replace-requires c = (
  is-held c.args.cat.now c.args.tab.now c.args.pos c.args.number c.args.list.now c.args.area.now
      c.requires.0 (ap is_held c.in-8.is),
  long-enough c.args.cat.now c.args.tab.now c.args.pos
      c.args.number c.args.list.now c.args.area.now c.requires.0 (ap is_dlet c.in-8.is),
)

pub delete-requires : goal.delete-requires
delete-requires c = is-held c.args.cat.now c.args.tab.now c.args.pos c.args.number c.args.list.now c.args.area.now
    c.requires.0 (ap is_held (is-nine c.args.cat.now c.args.tab.now c.args.pos c.args.number c.args.list.now
    c.args.area.now c.requires.0 c.requires.1 (λ e. omega arith) (λ e. omega arith)))

pub returns-in-7 : goal.returns-in-7
returns-in-7 c = c.insert.ensures ∙ did-insert c.args.cat.now c.args.tab.now c.args.pos c.args.number c.args.list.now
    c.args.area.now c.requires.0 c.in-7.is

pub returns-in-8 : goal.returns-in-8
returns-in-8 c = c.replace.ensures ∙ did-replace c.args.cat.now c.args.tab.now c.args.pos c.args.number c.args.list.now
    c.args.area.now c.requires.0 c.in-8.is

pub returns-in_default : goal.returns-in_default
returns-in_default c = c.delete.ensures c.args.area.now ∙ did-delete c.args.cat.now c.args.tab.now c.args.pos c.args.number
    c.args.list.now c.args.area.now c.requires.0
    (is-nine c.args.cat.now c.args.tab.now c.args.pos c.args.number c.args.list.now c.args.area.now
    c.requires.0 c.requires.1 (λ e. omega arith) (λ e. omega arith))
