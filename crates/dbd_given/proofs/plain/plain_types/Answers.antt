use mathlib.Core.Path.{◌∙◌}
use Prim.Native.Nat.{◌+◌, ◌*◌}
use borrow.Author.Tests.{tests}
use Rattle.std.proofs.Common.{rules}
use Rattle.rules.specs.Block.{part, zeros}
use Rattle.blocks.proofs.Tested.{all-range_inclusive}
use Rattle.dbd_given.proofs.plain.plain_types.Goals as goal

pub returns : goal.returns
returns c = all-range_inclusive (λ k. zeros (part c.args.cat.now (8 * k + 5) 3))
    c.new.ensures.start (c.new.ensures.end ∙ c.types.ensures) c.new.ensures.exhausted c.all.ensures.ran (λ x b q k. search (rules, tests))
