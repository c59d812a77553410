use Rattle.std.proofs.Common.{◌≡◌, length, ◌+◌, ◌-◌, ◌*◌, ◌≤◌}
use Rattle.rules.specs.Catalogue.{types}
use Rattle.table_check.specs.Readers.{Filled}
use Rattle.table_check.proofs.readers.fill.Given as goal

abbrev pub invariant-loop-v : goal.invariant-loop-v
invariant-loop-v l = record {
  within : l.v ≤ l.v-end + 1;
  all : l.v-end ≡ types l.cat;
  few : l.v-end ≤ 32;
  whole : 8 * l.v-end + 8 ≤ length l.cat;
  filled : Filled l.cat l.size (l.v - 1) l.facts;
}
