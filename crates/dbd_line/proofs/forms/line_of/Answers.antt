use Rattle.std.proofs.Common.{rules}
use mathlib.Core.Path.{sym, ◌∙◌}
use Rattle.dbd_line.proofs.Said.{says}
use Rattle.dbd_line.proofs.forms.line_of.Goals as goal

pub returns : goal.returns
returns c = says c.args.line.now (sym c.if-ends.false ∙ c.ends.ensures) _ _ _ _ c.dbd.ensures c.or_else.ensures (λ k. search rules)
    c.or_else-2.ensures (λ k. search rules) c.or_else-3.ensures (λ k. search rules)
