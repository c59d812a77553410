use Rattle.std.proofs.Common.{◌≡◌, true, ◌+◌, ◌-◌, ◌≤◌}
use Rattle.forest.specs.Numbers.{range}
use Rattle.rules.specs.Block.{every}
use Rattle.rules.specs.Catalogue.{good_type}
use Rattle.catalogue_check.specs.Levelled.{Ready}
use Rattle.catalogue_check.proofs.check.good_types.Given as goal

abbrev pub invariant-loop-k : goal.invariant-loop-k
invariant-loop-k l = record {
  within : l.k ≤ l.k-end + 1;
  good : every (good_type l.cat) (range 1 (l.k - 1)) ≡ true;
  ready : Ready l.cat l.levels (l.k - 1);
}
