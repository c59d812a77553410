use mathlib.Core.Path.{◌∙◌}
use borrow.Author.Tests.{tests}
use Rattle.std.proofs.Common.{rules}
use Rattle.rules.specs.Catalogue.{good_field}
use Rattle.blocks.proofs.Tested.{all-range_inclusive}
use Rattle.catalogue_check.proofs.check.good_fields.Goals as goal

pub returns : goal.returns
returns c = all-range_inclusive (good_field c.args.cat.now)
    c.new.ensures.start (c.new.ensures.end ∙ c.fields.ensures) c.new.ensures.exhausted c.all.ensures.ran (λ x b q k. search (rules, tests))
