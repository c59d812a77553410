use mathlib.Core.Path.{ap, sym, refl, ◌∙◌}
use Rattle.terms.specs.Statuses.{number}
use Rattle.terms.proofs.Verdict.{verdict-ok, verdict-err}
use Rattle.dli.proofs.Calls.{call-stopped, call-on, call-sound}
use Rattle.dli.proofs.call.Goals as goal

pub returns-in-Err : goal.returns-in-Err
returns-in-Err c =
    let told = verdict-err _ (sym c.unsound.ensures ∙ c.in-Err.is) in
    rw (c.stopped.ensures, told.1) (call-stopped c.args.cat.now c.args.tab.now c.args.pos c.args.number c.args.list.now c.args.area.now
    _ _ refl refl told.0)

pub call_sound-requires : goal.call_sound-requires
call_sound-requires c =
    call-sound c.args.cat.now c.args.tab.now c.args.pos c.args.number c.args.list.now c.args.area.now
    _ _ refl refl (ap number (verdict-ok _ (sym c.unsound.ensures ∙ c.in_default.is)))

pub returns : goal.returns
returns c = c.call_sound.ensures ∙ call-on c.args.cat.now c.args.tab.now c.args.pos c.args.number c.args.list.now
    c.args.area.now _ _ refl refl (ap number (verdict-ok _ (sym c.unsound.ensures ∙ c.in_default.is)))
