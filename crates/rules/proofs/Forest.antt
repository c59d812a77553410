-- The same cases over the forest: what B1 to B10 and the cases of the calls say holds of document 000's calls too, so that a wrong definition of these
-- is refused here. Assumes nothing.
use lib.Dec.{T}
use Rattle.rules.specs.Tree.{tree_outcome}
use Rattle.rules.specs.Cases.{all, right_by}
use Rattle.rules.specs.Cases.Bench.{cases, catalogue, table, empty, output}
use Rattle.rules.specs.Cases.Gets.{get_cases, miss_cases, over_cases, level_cases}
use Rattle.rules.specs.Cases.Along.{along_cases, line, line_table}
use Rattle.rules.specs.Cases.Changes.{insert_cases, replace_cases, delete_cases}
use Rattle.rules.specs.Cases.Packed.{field_cases, store_cases, torques, measured, all_measured}
use Rattle.rules.specs.Cases.Further.{step_note, full}
use Rattle.rules.specs.Computed.{computed}

pub bench-forest : T (all (right_by tree_outcome) cases)
unfolding computed cases catalogue table empty output
bench-forest = tt

pub gets-forest : T (all (right_by tree_outcome) get_cases)
unfolding computed get_cases catalogue table
gets-forest = tt

pub misses-forest : T (all (right_by tree_outcome) miss_cases)
unfolding computed miss_cases catalogue table empty
misses-forest = tt

pub over-forest : T (all (right_by tree_outcome) over_cases)
unfolding computed over_cases catalogue table empty
over-forest = tt

pub levels-forest : T (all (right_by tree_outcome) level_cases)
unfolding computed level_cases catalogue table step_note full
levels-forest = tt

pub along-forest : T (all (right_by tree_outcome) along_cases)
unfolding computed along_cases catalogue table empty line line_table
along-forest = tt

pub inserts-forest : T (all (right_by tree_outcome) insert_cases)
unfolding computed insert_cases catalogue table empty full
inserts-forest = tt

pub replaces-forest : T (all (right_by tree_outcome) replace_cases)
unfolding computed replace_cases catalogue table
replaces-forest = tt

pub deletes-forest : T (all (right_by tree_outcome) delete_cases)
unfolding computed delete_cases catalogue table
deletes-forest = tt

pub packed-fields-forest : T (all (right_by tree_outcome) field_cases)
unfolding computed field_cases torques measured
packed-fields-forest = tt

pub packed-stores-forest : T (all (right_by tree_outcome) store_cases)
unfolding computed store_cases torques measured all_measured
packed-stores-forest = tt
