use Rattle.std.proofs.Common.{◌≡◌, length}
use Rattle.answers.specs.Ready.{SoundFor}
use Rattle.lister.proofs.list.Given as goal

abbrev pub invariant-loop : goal.invariant-loop
invariant-loop l = SoundFor l.cat l.tab l.pos × (length l.out ≡ 262)
