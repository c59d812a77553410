use mathlib.Core.Path.{refl}
use Prim.Native.Nat.{◌-◌, suc}
use lib.Dec.{leb}
use native.Mathlib.Omega.{arith}
use borrow.Author.Tests.{tests}
use Rattle.std.proofs.Common.{rules}
use Rattle.terms.specs.Names.{field}
use Rattle.rules.specs.Catalogue.{fields, field_type}
use Rattle.statements.specs.Dbd.{ascending}
use Rattle.blocks.proofs.Tested.{all-range}
use Rattle.dbd_given.proofs.keys.ascending.Goals as goal

pub returns : goal.returns
unfolding ascending
returns c = all-range (λ f. leb (field_type c.args.cat.now (field f)).0 (field_type c.args.cat.now (field (suc f))).0) 1 c.fields.result
    (fields c.args.cat.now - 1) refl (omega arith) c.all.ensures.ran (λ x b q k. search (rules, tests))
