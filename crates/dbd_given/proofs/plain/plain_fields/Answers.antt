use mathlib.Core.Path.{◌∙◌}
use lib.Dec.{eqb}
use borrow.Author.Tests.{tests}
use Rattle.std.proofs.Common.{rules}
use Rattle.terms.specs.Names.{field}
use Rattle.rules.specs.Catalogue.{field_byte}
use Rattle.blocks.proofs.Tested.{all-range_inclusive}
use Rattle.dbd_given.proofs.plain.plain_fields.Goals as goal

pub returns : goal.returns
returns c = all-range_inclusive (λ f. eqb (field_byte c.args.cat.now (field f) 3) 0)
    c.new.ensures.start (c.new.ensures.end ∙ c.fields.ensures) c.new.ensures.exhausted c.all.ensures.ran (λ x b q k. search (rules, tests))
