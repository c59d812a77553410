-- The cases of each rule hold: one claim for each table of cases, so that a definition that goes wrong is refused by the name of what it broke. Each is
-- computed from the definitions. Assumes nothing.
use mathlib.Core.Bool.{not}
use lib.Dec.{T}
use Rattle.rules.specs.Cases.{all, right}
use Rattle.rules.specs.Cases.Bench.{catalogue, table, empty, output}
use Rattle.rules.specs.Cases.Positions.{position_cases}
use Rattle.rules.specs.Cases.Lists.{list_cases}
use Rattle.rules.specs.Cases.Compared.{comparison_cases, apart, five_keys, several}
use Rattle.rules.specs.Cases.Tables.{table_cases, maker_cases, three_lengths}
use Rattle.rules.specs.Cases.Gets.{get_cases, miss_cases, over_cases, level_cases}
use Rattle.rules.specs.Cases.Along.{along_cases, line, line_table}
use Rattle.rules.specs.Cases.Changes.{insert_cases, replace_cases, delete_cases}
use Rattle.rules.specs.Cases.Refusals.{refusal_cases, order_cases}
use Rattle.rules.specs.Cases.Listings.{listing_cases}
use Rattle.rules.specs.Cases.Untrue.{untrue_cases}
use Rattle.rules.specs.Cases.Numbers.{meets, number_cases}
use Rattle.rules.specs.Cases.Packed.{key_cases, field_cases, store_cases, torques, measured, all_measured}
use Rattle.rules.specs.Cases.Further.{step_note, full, multiple, two_segments}
use Rattle.rules.specs.Computed.{computed}

pub position-cases : T (all right position_cases)
unfolding computed position_cases catalogue table empty
position-cases = tt

pub list_cases_lem : T (all right list_cases)
unfolding computed list_cases catalogue table multiple two_segments
list_cases_lem = tt

pub comparison-cases : T (all right comparison_cases)
unfolding computed comparison_cases apart five_keys several
comparison-cases = tt

pub table-cases : T (all right table_cases)
unfolding computed table_cases catalogue table three_lengths
table-cases = tt

pub maker-cases : T (all right maker_cases)
unfolding computed maker_cases catalogue table three_lengths
maker-cases = tt

pub get-cases : T (all right get_cases)
unfolding computed get_cases catalogue table
get-cases = tt

pub miss-cases : T (all right miss_cases)
unfolding computed miss_cases catalogue table empty
miss-cases = tt

pub over-cases : T (all right over_cases)
unfolding computed over_cases catalogue table empty
over-cases = tt

pub level-cases : T (all right level_cases)
unfolding computed level_cases catalogue table step_note full
level-cases = tt

pub along-cases : T (all right along_cases)
unfolding computed along_cases catalogue table empty line line_table
along-cases = tt

pub insert-cases : T (all right insert_cases)
unfolding computed insert_cases catalogue table empty full
insert-cases = tt

pub replace-cases : T (all right replace_cases)
unfolding computed replace_cases catalogue table
replace-cases = tt

pub delete-cases : T (all right delete_cases)
unfolding computed delete_cases catalogue table
delete-cases = tt

pub refusal-cases : T (all right refusal_cases)
unfolding computed refusal_cases catalogue table
refusal-cases = tt

pub order-cases : T (all right order_cases)
unfolding computed order_cases catalogue table full
order-cases = tt

pub listing-cases : T (all right listing_cases)
unfolding computed listing_cases catalogue table empty step_note full
listing-cases = tt

-- packed numbers by themselves, as keys in a table, as fields that are tested, as keys that are brought and replaced
pub number-cases : T (all meets number_cases)
unfolding computed number_cases
number-cases = tt

pub packed-key-cases : T (all right key_cases)
unfolding computed key_cases torques measured
packed-key-cases = tt

pub packed-field-cases : T (all right field_cases)
unfolding computed field_cases torques measured
packed-field-cases = tt

pub packed-change-cases : T (all right store_cases)
unfolding computed store_cases torques measured all_measured
packed-change-cases = tt

-- and cases that say what is not so do not hold
pub untrue-cases : T (all (λ c. not (right c)) untrue_cases)
unfolding computed untrue_cases catalogue table output
untrue-cases = tt
