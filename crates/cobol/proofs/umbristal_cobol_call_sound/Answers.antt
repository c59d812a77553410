use Rattle.cobol.proofs.Whole.{call-told}
use Rattle.cobol.proofs.umbristal_cobol_call_sound.Goals as goal

pub returns : goal.returns
returns c = call-told _ _ _ _ _ _ c.tell.ensures c.called_sound.ensures
