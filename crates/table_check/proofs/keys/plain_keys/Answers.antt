use mathlib.Core.Path.{◌∙◌}
use borrow.Author.Tests.{tests}
use Rattle.std.proofs.Common.{rules}
use Rattle.blocks.proofs.Tested.{all-range_inclusive}
use Rattle.table_check.specs.Keys.{plain_keys}
use Rattle.table_check.proofs.Stored.{plain_key}
use Rattle.table_check.proofs.keys.plain_keys.Goals as goal

pub returns : goal.returns
unfolding plain_keys
returns c = all-range_inclusive (plain_key c.args.cat.now)
    c.new.ensures.start (c.new.ensures.end ∙ c.types.ensures) c.new.ensures.exhausted c.all.ensures.ran (λ x b q k. search (rules, tests))
