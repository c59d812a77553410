use mathlib.Core.Path.{ap, ◌∙◌}
use Prim.Native.Nat.{ℕ, ◌+◌, ◌*◌}
use native.Mathlib.Omega.{arith}
use borrow.Author.Tests.{tests}
use Rattle.std.proofs.Common.{rules}
use Rattle.std.proofs.lemmas.Grind.{common_steps}
use Rattle.blocks.proofs.Tested.{all-range_inclusive}
use Rattle.dbd_given.proofs.NameList.{own_apart, differ-tests, distinct-own_apart}
use Rattle.dbd_given.proofs.names.differ.Goals as goal

pub returns-then-are_distinct : goal.returns-then-are_distinct
returns-then-are_distinct c =
    let each = all-range_inclusive (own_apart c.args.cat.now c.args.names.now) c.new.ensures.start (c.new.ensures.end ∙ c.types-top.ensures)
    c.new.ensures.exhausted c.all.ensures.ran
    (λ x b q k. let e = distinct-own_apart c.args.cat.now c.args.names.now c.types-top.result c.types-top.ensures c.fields-last.result x _ _
    c.fields-last.ensures (ap (λ (n : ℕ). 8 + 8 * n) c.wide.ensures.0) (ap (λ (n : ℕ). 16 + 8 * n) c.wide-2.ensures.0) in search (rules, tests)) in
    let tests = differ-tests c.args.cat.now c.args.names.now c.types-top.result c.types-top.ensures in
    grind (arith, common_steps)

pub returns-else-are_distinct : goal.returns-else-are_distinct
returns-else-are_distinct c =
    let tests = differ-tests c.args.cat.now c.args.names.now c.types-top.result c.types-top.ensures in grind (arith, common_steps)
