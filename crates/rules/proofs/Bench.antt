-- B1 to B10 hold, as one table with one claim, and so do the further cases and the rules of a catalogue. Each is computed from the
-- definitions. Assumes nothing.
use lib.Dec.{T}
use Rattle.rules.specs.Cases.{all, right}
use Rattle.rules.specs.Cases.Bench.{cases, catalogue, table, empty, output}
use Rattle.rules.specs.Cases.Further.{further, multiple, two_segments, full, step_note, same_keys, past_data, not_free}
use Rattle.rules.specs.Cases.Catalogues.{ruled}
use Rattle.rules.specs.Computed.{computed}

-- the one claim
pub bench : T (all right cases)
unfolding computed cases catalogue table empty output
bench = tt

pub beside : T (all right further)
unfolding computed further catalogue table multiple two_segments full step_note same_keys past_data not_free
beside = tt

-- the rules of a catalogue, each at its border
pub by-rule : T (all right ruled)
unfolding computed ruled catalogue
by-rule = tt
