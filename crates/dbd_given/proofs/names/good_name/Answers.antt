use Rattle.std.proofs.Common.{arith}
use Rattle.std.proofs.lemmas.Grind.{common_steps}
use Rattle.dbd_given.proofs.OneName.{good_name-tests, no_word}
use Rattle.dbd_given.proofs.names.good_name.Goals as goal

pub returns-then-is_word : goal.returns-then-is_word
returns-then-is_word c =
    let e = good_name-tests c.args.name.now c.name_end-end.result c.name_end-end.ensures.0 c.name_end-end.ensures.1 in grind (arith, common_steps)

pub returns-else-is_word : goal.returns-else-is_word
returns-else-is_word c =
    let e = good_name-tests c.args.name.now c.name_end-end.result c.name_end-end.ensures.0 c.name_end-end.ensures.1 in grind (arith, common_steps, no_word)
