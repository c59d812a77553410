use borrow.Author.Tests.{tests}
use Rattle.std.proofs.Common.{rules}
use Rattle.statements.specs.Words.{in_word}
use Rattle.blocks.proofs.Tested.{all-slice}
use Rattle.dbd_given.proofs.names.is_word.Goals as goal

pub returns : goal.returns
returns c = all-slice in_word c.iter.ensures.rest c.all.ensures.ran (λ x b q k. search (rules, tests))
