use Rattle.std.proofs.Common.{arith}
use mathlib.Core.Bool.{false≢true}
use mathlib.Core.Path.{◌∙◌}
use Rattle.dli.proofs.Calls.{of-unique, of-next, of-within}
use Rattle.gets.proofs.OneList.{ready-alone, next-alone, within-alone}
use Rattle.dli.proofs.get.Goals as goal

pub get_next-requires : goal.get_next-requires
get_next-requires c = let r = ready-alone c.requires.ready in (r.0, r.1, c.requires.long, λ e. absurd (false≢true e))

pub get_next_within-requires : goal.get_next_within-requires
get_next_within-requires c = let r = ready-alone c.requires.ready in (r.0, r.1, c.requires.long, c.requires.parent (λ e. omega arith) (λ e. omega arith))

pub returns-in-1 : goal.returns-in-1
returns-in-1 c = c.get_unique.ensures ∙ of-unique c.args.cat.now c.args.tab.now c.args.pos c.args.form c.args.list.now
    c.args.area.now c.args.hold c.in-1.is

pub returns-in-2 : goal.returns-in-2
returns-in-2 c = next-alone _ _ _ _ _ _ c.get_next.ensures ∙ of-next c.args.cat.now c.args.tab.now c.args.pos c.args.form
    c.args.list.now c.args.area.now c.args.hold c.in-2.is

pub returns-in_default : goal.returns-in_default
returns-in_default c = within-alone _ _ _ _ _ _ c.get_next_within.ensures ∙ of-within c.args.cat.now c.args.tab.now c.args.pos
    c.args.form c.args.list.now c.args.area.now c.args.hold (λ e. omega arith) (λ e. omega arith)
