use lib.Dec.{eqb}
use borrow.Author.Tests.{tests}
use Rattle.std.proofs.Common.{rules}
use Rattle.blocks.proofs.Tested.{all-slice}
use Rattle.dbd_given.proofs.names.all_spaces.Goals as goal

pub returns : goal.returns
returns c = all-slice (λ x. eqb x 0x20) c.iter.ensures.rest c.all.ensures.ran (λ x b q k. search (rules, tests))
