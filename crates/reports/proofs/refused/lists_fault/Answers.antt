use mathlib.Core.Path.{ap, sym, ◌∙◌}
use Rattle.std.proofs.lemmas.Result.{err_from_is_err_and}
use Rattle.terms.specs.declared.Argument.{Argument}
use Rattle.terms.specs.Statuses.{verdict}
use Rattle.reports.proofs.Lists.{lists-faulty, lists-no-first, lists-no-second, lists-behind}
use Rattle.reports.proofs.refused.lists_fault.Goals as goal

pub returns-in_err-fault : goal.returns-in_err-fault
returns-in_err-fault c =
    let p = err_from_is_err_and c.from_residual.result c.from_residual.ensures.1 in
    rw (p.1, p.2) (lists-faulty _ _ c.args.two.now (sym c.fault.ensures ∙ c.in_err-fault.was))

pub returns-then-is_empty : goal.returns-then-is_empty
returns-then-is_empty c = lists-no-first _ _ c.args.two.now (sym c.fault.ensures ∙ c.in_ok-fault.was) (sym c.is_empty.ensures ∙ c.if-is_empty.true)

pub returns-then-is_empty-2 : goal.returns-then-is_empty-2
returns-then-is_empty-2 c = lists-no-second _ _ c.args.two.now (sym c.fault.ensures ∙ c.in_ok-fault.was)
    (sym c.is_empty.ensures ∙ c.if-is_empty.false) (sym c.is_empty-2.ensures ∙ c.if-is_empty-2.true)

pub returns : goal.returns
returns c = c.fault_behind.ensures ∙ ap verdict (lists-behind _ _ _ (sym c.fault.ensures ∙ c.in_ok-fault.was) c.requires
    (sym c.is_empty.ensures ∙ c.if-is_empty.false) (sym c.is_empty-2.ensures ∙ c.if-is_empty-2.false) _
    (ap (λ (a : Argument). a.code) c.last_of.ensures))
