use mathlib.Core.Path.{refl}
use native.Mathlib.Omega.{arith}
use borrow.Author.Tests.{tests}
use Rattle.std.proofs.Common.{rules}
use Rattle.rules.specs.Table.{count, padded}
use Rattle.blocks.proofs.Tested.{all-range}
use Rattle.table_check.proofs.padding.all_padded.Goals as goal

pub returns : goal.returns
returns c = all-range (padded c.args.cat.now c.args.tab.now) 0 c.count.result (count c.args.tab.now) refl (omega (arith, c.count.ensures.0))
    c.all.ensures.ran (λ x b q k. search (rules, tests))
