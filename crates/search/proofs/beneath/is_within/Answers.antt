use Rattle.search.proofs.Within.{within_none, within-type}
use mathlib.Core.Path.{◌∙◌}
use borrow.Author.Tests.{le-ltb}
use native.Mathlib.Omega.{arith}
use Rattle.search.proofs.beneath.is_within.Goals as goal

pub returns-else-i-count : goal.returns-else-i-count
returns-else-i-count c = le-ltb _ _ c.if-i-count.false ∙ within_none c.requires.0 c.args.p.0 c.args.i
    c.requires.1 c.requires.2
    c.requires.3 (omega (arith, c.if-i-count.false, c.count.ensures.0))

pub returns-then-i-count : goal.returns-then-i-count
returns-then-i-count c = within-type c.requires.0 c.args.p.0 c.args.i
    c.requires.1
    c.requires.2
    c.requires.3 c.code_at.result
    c.code_at-then-i-count.result c.is_beneath.result
    (omega (arith, c.if-i-count.true, c.count.ensures.0))
    c.code_at.ensures c.code_at-then-i-count.ensures c.is_beneath.ensures
