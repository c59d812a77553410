use Rattle.changes.proofs.Spots.{status-full, status-none}
use Rattle.changes.specs.Among.{insert_status}
use Rattle.changes.proofs.insert.insert_refused.Goals as goal

pub returns-then-spot : goal.returns-then-spot
unfolding insert_status
returns-then-spot c = simp c.if-spot.true

pub returns-then-tab-size : goal.returns-then-tab-size
unfolding insert_status
returns-then-tab-size c = status-full c.requires c.count.ensures.0 c.if-spot.false c.if-tab-size.true

pub returns : goal.returns
unfolding insert_status
returns c = status-none c.requires c.count.ensures.0 c.if-spot.false c.if-tab-size.false
