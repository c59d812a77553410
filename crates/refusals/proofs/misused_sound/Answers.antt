use mathlib.Core.Path.{ap, sym, ◌∙◌}
use Prim.Native.Nat.{◌<◌}
use native.Mathlib.Omega.{arith}
use Rattle.std.proofs.lemmas.Result.{err_from_is_err_and}
use Rattle.terms.specs.Statuses.{verdict}
use Rattle.refusals.proofs.Order.{number-none, number-above, list-faulty, get-misused, insert-misused, held-misused, sized-some, sound-list}
use Rattle.refusals.proofs.misused_sound.Goals.{then-number-eq0-via-then-number-eq0, then-number-eq0-via-else-number-eq0+then-number-gt9}
use Rattle.refusals.proofs.misused_sound.Goals as goal

pub returns-then-number-eq0 : goal.returns-then-number-eq0
returns-then-number-eq0 c = elim c.then-number-eq0.branch [
  | then-number-eq0-via-then-number-eq0 w ↦ number-none c.args.cat.now c.args.pos c.args.number c.args.list.now c.args.area.now w.if-number-eq0.true
  | then-number-eq0-via-else-number-eq0+then-number-gt9 w ↦ number-above c.args.cat.now c.args.pos c.args.number c.args.list.now c.args.area.now w.if-number-gt9.true
]

pub returns-in_err-fault : goal.returns-in_err-fault
returns-in_err-fault c =
    let p = err_from_is_err_and c.from_residual.result c.from_residual.ensures.1 in
    rw (p.1, p.2) (list-faulty c.args.cat.now c.args.pos c.args.number c.args.list.now c.args.area.now c.if-number-eq0.false
    c.if-number-gt9.false _ (sym c.fault.ensures ∙ c.in_err-fault.was))

pub misused_get-requires : goal.misused_get-requires
misused_get-requires c =
    sized-some c.args.cat.now c.args.size c.requires.0

pub returns-then-number-lt7 : goal.returns-then-number-lt7
returns-then-number-lt7 c = c.misused_get.ensures ∙ ap verdict (get-misused c.args.cat.now c.args.pos c.args.number c.args.list.now
    c.args.area.now c.args.size c.requires.0
    (sound-list c.args.cat.now c.args.list.now c.requires.1 (sym c.fault.ensures ∙ c.in_ok-fault.was)) c.if-number-eq0.false c.if-number-lt7.true)

pub misused_insert-requires : goal.misused_insert-requires
misused_insert-requires c = (
  sized-some c.args.cat.now c.args.size c.requires.0,
  sound-list c.args.cat.now c.args.list.now c.requires.1 (sym c.fault.ensures ∙ c.in_ok-fault.was),
)

pub returns-then-number-eq7 : goal.returns-then-number-eq7
returns-then-number-eq7 c =
    c.misused_insert.ensures ∙ ap verdict (insert-misused c.args.cat.now c.args.pos c.args.number c.args.list.now
    c.args.area.now c.args.size c.requires.0
    (sound-list c.args.cat.now c.args.list.now c.requires.1 (sym c.fault.ensures ∙ c.in_ok-fault.was)) c.if-number-eq7.true)

pub misused_held-requires : goal.misused_held-requires
misused_held-requires c =
    sized-some c.args.cat.now c.args.size c.requires.0

pub returns : goal.returns
returns c =
    c.misused_held.ensures ∙ ap verdict (held-misused c.args.cat.now c.args.pos c.args.number c.args.list.now
    c.args.area.now c.args.size c.requires.0
    (sound-list c.args.cat.now c.args.list.now c.requires.1 (sym c.fault.ensures ∙ c.in_ok-fault.was))
    (let z : 7 < c.args.number = omega arith in z) c.if-number-gt9.false)
