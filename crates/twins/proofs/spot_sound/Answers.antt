use Rattle.twins.proofs.Passing.{spot-unique, spot-other}
use Rattle.twins.proofs.spot_sound.Goals as goal

pub returns-then-key_kind-eq1 : goal.returns-then-key_kind-eq1
returns-then-key_kind-eq1 c = spot-unique c.requires.0 c.requires.2 c.pass_row-s.ensures c.key_kind.ensures c.if-key_kind-eq1.true

pub returns : goal.returns
returns c = spot-other c.requires.0 c.requires.2 c.pass_row-s.ensures c.key_kind.ensures c.if-key_kind-eq1.false
