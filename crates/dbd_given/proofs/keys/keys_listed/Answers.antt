use mathlib.Core.Path.{◌∙◌}
use mathlib.Core.Bool.{◌||◌}
use lib.Dec.{eqb, ltb}
use borrow.Author.Tests.{tests}
use Rattle.std.proofs.Common.{rules}
use Rattle.terms.specs.Names.{code}
use Rattle.rules.specs.Catalogue.{key_kind}
use Rattle.statements.specs.Dbd.{key_field, keys_listed}
use Rattle.blocks.proofs.Tested.{all-range_inclusive}
use Rattle.dbd_given.proofs.Fields.{is_some-numbered}
use Rattle.dbd_given.proofs.keys.keys_listed.Goals as goal

pub returns : goal.returns
unfolding keys_listed
returns c = all-range_inclusive (λ k. eqb (key_kind c.args.cat.now (code k)) 0 || ltb 0 (key_field c.args.cat.now k)) c.new.ensures.start
    (c.new.ensures.end ∙ c.types.ensures) c.new.ensures.exhausted c.all.ensures.ran (λ x b q k. search (rules, tests, is_some-numbered))
