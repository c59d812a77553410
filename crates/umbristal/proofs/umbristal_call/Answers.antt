use mathlib.Core.Path.{ap, sym, refl, ◌∙◌}
use Rattle.terms.specs.Statuses.{number}
use Rattle.terms.proofs.Verdict.{verdict-ok, verdict-err}
use Rattle.rules.specs.Position.{position_of}
use Rattle.dli.proofs.Calls.{call-sound}
use Rattle.umbristal.proofs.Refused.{refused-left, sound-as-any}
use Rattle.umbristal.proofs.umbristal_call.Goals as goal

pub returns-in-Err : goal.returns-in-Err
returns-in-Err c =
    let told = verdict-err _ (sym c.unsound.ensures ∙ c.in-Err.is) in
    refused-left c.args.cat.now c.args.tab.now c.args.pos.now c.args.number c.args.list.now
    c.args.area.now _ _ refl refl told.0 c.refused.result (rw told.1 at c.refused.ensures)

pub got-requires : goal.got-requires
got-requires c = (
  call-sound c.args.cat.now c.args.tab.now (position_of c.args.pos.now) c.args.number c.args.list.now
      c.args.area.now _ _ refl refl (ap number (verdict-ok _ (sym c.unsound.ensures ∙ c.in_default.is))),
  c.if-number-lt7.true,
)

pub returns-then-number-lt7 : goal.returns-then-number-lt7
returns-then-number-lt7 c = c.got.ensures ∙ sound-as-any c.args.cat.now c.args.tab.now c.args.pos.now c.args.number
    c.args.list.now c.args.area.now _ _ refl refl (ap number (verdict-ok _ (sym c.unsound.ensures ∙ c.in_default.is)))

pub changed-requires : goal.changed-requires
changed-requires c = (
  call-sound c.args.cat.now c.args.tab.now (position_of c.args.pos.now) c.args.number c.args.list.now
      c.args.area.now _ _ refl refl (ap number (verdict-ok _ (sym c.unsound.ensures ∙ c.in_default.is))),
  c.if-number-lt7.false,
)

pub returns : goal.returns
returns c = c.changed.ensures ∙ sound-as-any c.args.cat.now c.args.tab.now c.args.pos.now c.args.number
    c.args.list.now c.args.area.now _ _ refl refl (ap number (verdict-ok _ (sym c.unsound.ensures ∙ c.in_default.is)))
