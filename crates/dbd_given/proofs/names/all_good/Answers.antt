use mathlib.Core.Path.{refl}
use Prim.Native.Nat.{◌+◌, ◌*◌}
use native.Mathlib.Omega.{arith}
use borrow.Author.Tests.{tests}
use Rattle.std.proofs.Common.{rules}
use Rattle.blocks.proofs.Tested.{all-range}
use Rattle.dbd_given.proofs.OneName.{name-at}
use Rattle.dbd_given.proofs.NameList.{good_at}
use Rattle.dbd_given.proofs.names.all_good.Goals as goal

pub returns : goal.returns
returns c = all-range (good_at c.args.names.now) 0 c.args.n c.args.n refl (omega arith) c.all.ensures.ran
    (λ x b q k. let e = name-at c.args.names.now x (8 + 8 * x) (16 + 8 * x) refl (omega arith) in search (rules, tests))
