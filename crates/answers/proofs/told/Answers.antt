use Rattle.answers.specs.Told.{told}
use Rattle.answers.proofs.told.Goals as goal

pub returns : goal.returns
unfolding told
returns c = simp (c.level.ensures, c.data_length.ensures)
