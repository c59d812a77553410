use native.Mathlib.Omega.{arith}
use Rattle.catalogue.proofs.Levels.{ordered}
use Rattle.catalogue.proofs.lineage.levels_to.Goals as goal

pub add_level-requires : goal.add_level-requires
add_level-requires c = (ordered c.args.cat.now c.requires.0 c.loop-k.k (omega arith), omega arith, c.loop-k.invariant)
