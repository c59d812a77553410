use mathlib.Core.Path.{sym, ◌∙◌}
use mathlib.Core.Bool.{◌&&◌}
use lib.Dec.{eqb}
use native.Mathlib.Omega.{arith}
use borrow.Author.Tests.{tests}
use Rattle.std.proofs.Common.{rules}
use Rattle.std.specs.Iterator.Adapters.{map_source}
use Rattle.std.proofs.lemmas.Iterator.{YieldsList, YieldsList-from_map}
use Rattle.std.proofs.lemmas.Iterator.Adapters.{option_map_id}
use Rattle.std.proofs.lemmas.Iterator.Search.{find_from_yields_List}
use Rattle.forest.specs.Numbers.{range}
use Rattle.terms.specs.Names.{field}
use Rattle.rules.specs.Catalogue.{fields, field_type}
use Rattle.statements.specs.Dbd.{is_key_of, key_field, own_fields}
use Rattle.blocks.proofs.Given.{upwards, YieldsList-from_range_inclusive}
use Rattle.dbd_given.proofs.Fields.{find-numbered}
use Rattle.dbd_given.proofs.keys.key_field.Goals as goal

pub returns : goal.returns
unfolding key_field own_fields
returns c =
    let n = fields c.args.cat.now in
    let numbers : YieldsList upwards (λ x. x) (map_source c.map.result) (range 1 n) =
    rw c.map.ensures.source (YieldsList-from_range_inclusive c.new.result 1 n n
    c.new.ensures.start (c.new.ensures.end ∙ c.fields.ensures) c.new.ensures.exhausted (omega arith)) in
    sym (option_map_id c.find.result)
    ∙ find_from_yields_List (λ f. eqb (field_type c.args.cat.now (field f.0)).0 c.args.t.0 && is_key_of c.args.cat.now c.args.t.0 f.0) _ _ c.find.result
    c.find.ensures.ran (YieldsList-from_map _ field numbers c.map.ensures.closure (λ x r q k. search rules)) (λ x b q k. search (rules, tests))
    ∙ find-numbered (λ f. eqb (field_type c.args.cat.now (field f)).0 c.args.t.0) (is_key_of c.args.cat.now c.args.t.0) 0 n
