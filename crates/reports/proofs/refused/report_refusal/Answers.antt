use mathlib.Core.Path.{ap, sym, ◌∙◌}
use Rattle.terms.specs.Statuses.{verdict}
use Rattle.reports.proofs.Lists.{refused-blocks, refused-lists, blocks-good}
use Rattle.reports.proofs.refused.report_refusal.Goals as goal

pub lists_fault-requires : goal.lists_fault-requires
lists_fault-requires c = (blocks-good _ c.args.tab.now c.args.one.now c.args.two.now (sym c.check.ensures ∙ c.in-Blank.is)).0

pub returns-in-Blank : goal.returns-in-Blank
returns-in-Blank c = c.lists_fault.ensures ∙ ap verdict (refused-lists _ _ c.args.one.now c.args.two.now (sym c.check.ensures ∙ c.in-Blank.is))

pub returns-in_default : goal.returns-in_default
returns-in_default c = refused-blocks _ _ c.args.one.now c.args.two.now c.check.ensures c.in_default.not-Blank
