use mathlib.Core.Path.{ap, ◌∙◌}
use Rattle.terms.specs.Statuses.{verdict}
use Rattle.rules.specs.Arguments.{ListRead}
use Rattle.arguments.proofs.Rest.{rest-whole}
use Rattle.arguments.proofs.read.fault.Goals as goal

pub returns : goal.returns
returns c = c.fault_behind.ensures ∙ ap (λ (l : ListRead). verdict l.fault) (rest-whole _ _)
