use mathlib.Core.Path.{ap, sym, refl, ◌∙◌}
use Rattle.terms.specs.Statuses.{number}
use Rattle.terms.proofs.Verdict.{verdict-ok, verdict-err}
use Rattle.dli.proofs.Calls.{five-in, size_is, asked-stopped, callable, did-call}
use Rattle.dli.proofs.change_sound.Goals as goal

pub bounds-tab-5 : goal.bounds-tab-5
bounds-tab-5 c = five-in c.args.cat.now c.args.tab.now c.args.pos c.args.number c.args.list.now c.args.area.now
    c.requires.0

pub misused_sound-requires : goal.misused_sound-requires
misused_sound-requires c = (
  size_is c.args.cat.now c.args.tab.now c.args.pos c.args.number c.args.list.now c.args.area.now
      c.requires.0 c.wide-size.result c.wide-size.ensures.0,
  c.requires.0.catalogue,
)

pub returns-in-Err : goal.returns-in-Err
returns-in-Err c =
    let told = verdict-err _ (sym c.misused_sound.ensures ∙ c.in-Err.is) in
    rw (c.stopped.ensures, told.1) (asked-stopped c.args.cat.now c.args.tab.now c.args.pos c.args.number c.args.list.now c.args.area.now
    _ _ refl refl told.0)

pub called_change_sound-requires : goal.called_change_sound-requires
called_change_sound-requires c = (
  callable c.args.cat.now c.args.tab.now c.args.pos c.args.number c.args.list.now c.args.area.now
      c.requires.0 _ _ refl refl (ap number (verdict-ok _ (sym c.misused_sound.ensures ∙ c.in_default.is)))
      c.wide-size.result c.wide-size.ensures.0,
  c.requires.1,
)

pub returns : goal.returns
returns c = c.called_change_sound.ensures ∙ did-call c.args.cat.now c.args.tab.now c.args.pos c.args.number
    c.args.list.now c.args.area.now c.requires.0 _ _ refl refl (ap number (verdict-ok _ (sym c.misused_sound.ensures ∙ c.in_default.is)))
