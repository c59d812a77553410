-- One name that opens every definition for computing: a claim that says `unfolding computed` computes with them all. Each opening before it opens the
-- definitions of one part. Assumes nothing.
use Rattle.terms.specs.declared.CellNumber.{CellNumber}
use Rattle.std.specs.Prelude.{Bool, false, ℕ, Option}
use mathlib.Core.List.{List, flat_map}
use Rattle.terms.specs.declared.TypeCode.{TypeCode}
use Rattle.terms.specs.declared.Place.{Place}
use Rattle.terms.specs.declared.Position.{Position}
use Rattle.terms.specs.Operators.{operator_of}
use Rattle.forest.specs.Types.{lineage_from, lineage as lineage_over}
use Rattle.forest.specs.Forest.{Forest, forest_of, deep, rest}
use Rattle.forest.specs.Good.{formed}
use Rattle.forest.specs.Rows.{back}
use Rattle.forest.specs.Runs.{under}
use Rattle.forest.specs.Edit.{kids, edit}
use Rattle.forest.specs.Insert.{graft, spot}
use Rattle.rules.specs.Block.{Bytes, every, any_of, zeros, marked, same_bytes}
use Rattle.rules.specs.Catalogue.{types, fields, type_byte, parent_of, length_of, key_kind, key_start, key_length, key_value}
use Rattle.rules.specs.Catalogue.{field_byte, field_type, field_start, field_length, field_value, lineage, level, is_type, type_beneath, largest}
use Rattle.rules.specs.Catalogue.{good_key, good_parent, good_type, good_field, good_header, good_catalogue}
use Rattle.rules.specs.Packed.{is_number, digits_on, magnitude, is_minus, above, below, number_order, packed_order}
use Rattle.rules.specs.Order.{order, is_value, value_order}
use Rattle.rules.specs.Cells.{Segment, segment_of, arriving, shown_bytes, long, key, keyed, key_order, twin_order, same_key, is_child, goes_before}
use Rattle.rules.specs.Cells.{good_listing, level_at, run_at, end_at, row_at}
use Rattle.rules.specs.Table.{count, cell_size, cell_start, room, type_at, segment_at, listing, good_room, padded, good_table, cell_bytes, table_bytes}
use Rattle.rules.specs.Position.{good_position, position_bytes, good_block, position_of}
use Rattle.rules.specs.Arguments.{Level, good_next, is_field_of, argument_at, arguments_from, list_read, asked_of, complete}
use Rattle.rules.specs.Matching.{field_bytes, tested, agrees, path_to, agree, matches, seek, first_match, kept_on, along}
use Rattle.rules.specs.Calls.{After, answer_of, changed, key_taken, get_unique, get_next, get_next_within, inserted, insert_among, insert}
use Rattle.rules.specs.Calls.{replaced, replacement, replace, deleted, delete, called}
use Rattle.rules.specs.Outcome.{Store, unsound, misused, stopped, unless, after_sound, after_call, outcome_of, outcome, sound_outcome, block_after}
use Rattle.rules.specs.Outcome.{check_catalogue, check_table, make_status, made_table}
use Rattle.rules.specs.Listing.{digits, decimal, hex_digit, hex, cell_line, last_line, lines_from, listing_text}
use Rattle.rules.specs.Tree.{select, all_paths, last_implied, data_part, search, try_path, search_along, segments, int_gu, int_gn, int_gnp, find_position}
use Rattle.rules.specs.Tree.{has_key, put_under, int_isrt, exchanged, int_repl, taken_out, int_dlet, call_of, interpreted, tree_outcome}

-- what a catalogue says of types and fields
unfoldable pub entries_computed : Bytes → ℕ
unfolding every any_of zeros marked same_bytes types fields type_byte parent_of length_of key_kind key_start key_length key_value
entries_computed cat = types cat

-- what it says of fields, and which types lie above a type
unfoldable pub fields_computed : Bytes → ℕ
unfolding entries_computed field_byte field_type field_start field_length field_value lineage_from lineage_over lineage level is_type type_beneath largest
fields_computed cat = fields cat

-- the check of a catalogue
unfoldable pub catalogue_computed : Bytes → Bool
unfolding fields_computed good_key good_parent good_type good_field good_header good_catalogue
catalogue_computed cat = good_catalogue cat

-- segments and their keys
unfoldable pub segments_computed : Bytes → Segment → Segment → Bool
unfolding catalogue_computed is_number digits_on magnitude is_minus above below number_order packed_order order is_value value_order segment_of arriving shown_bytes long key keyed key_order twin_order same_key is_child goes_before
segments_computed cat c d = twin_order cat c d

-- the cells as a forest: levels, runs, ancestors
unfoldable pub cells_computed : Bytes → List Segment → Bool
unfolding segments_computed forest_of deep rest formed back under good_listing level_at run_at end_at row_at
cells_computed cat cs = good_listing cat cs

-- the table's bytes and its check
unfoldable pub table_computed : Bytes → Bytes → Bool
unfolding cells_computed flat_map count cell_size cell_start room type_at segment_at listing good_room padded good_table cell_bytes table_bytes
table_computed cat tab = good_table cat tab

-- the position and its block
unfoldable pub position_computed : Bytes → List Segment → Position → Bool
unfolding cells_computed good_position position_bytes good_block position_of
position_computed cat cs pos = good_position cat cs pos

-- the list, and what matches it
unfoldable pub list_computed : Bytes → Bytes → TypeCode → List Level
unfolding fields_computed is_number is_value operator_of good_next is_field_of argument_at arguments_from list_read asked_of complete
list_computed cat list t = complete cat list (list_read cat list).arguments t

unfoldable pub search_computed : Bytes → List Segment → List Level → Place → Option CellNumber
unfolding cells_computed list_computed field_bytes tested agrees path_to agree matches seek first_match kept_on along
search_computed cat cs ls q = along cat cs ls q

-- the calls: what they get, and what they change
unfoldable pub gets_computed : Bytes → List Segment → Position → Bytes → List Level → After
unfolding search_computed answer_of get_unique get_next get_next_within
gets_computed cat cs pos area ls = get_next cat cs pos area false ls

unfoldable pub changes_computed : Bytes → List Segment → Position → Bytes → After
unfolding search_computed answer_of changed key_taken spot inserted insert_among insert replaced replacement replace deleted delete
changes_computed cat cs pos area = delete cat cs pos area

-- from bytes to bytes: the refusals, then the call
unfoldable pub outcome_computed : Store
unfolding gets_computed changes_computed table_computed position_computed called unsound misused stopped unless after_sound after_call outcome_of outcome sound_outcome
outcome_computed cat tab pos c list area = outcome cat tab pos c list area

-- the block of a position, the checks and the maker
unfoldable pub checks_computed : Bytes → Bytes → Bytes
unfolding table_computed position_computed block_after check_catalogue check_table make_status made_table
checks_computed cat tab = made_table cat tab

-- the listing
unfoldable pub listing_computed : Bytes → Bytes → Bytes
unfolding outcome_computed digits decimal hex_digit hex cell_line last_line lines_from listing_text
listing_computed cat tab = listing_text cat tab

-- the calls over the forest
unfoldable pub paths_computed : Bytes → List Segment → Forest ℕ
unfolding search_computed kids edit graft select all_paths last_implied data_part search try_path search_along segments
paths_computed cat cs = data_part cat cs

unfoldable pub tree_computed : Store
unfolding outcome_computed paths_computed int_gu int_gn int_gnp find_position has_key put_under int_isrt exchanged int_repl taken_out int_dlet call_of interpreted tree_outcome
tree_computed cat tab pos c list area = tree_outcome cat tab pos c list area

-- all of them
unfoldable pub computed : Store
unfolding outcome_computed checks_computed listing_computed tree_computed
computed cat tab pos c list area = outcome cat tab pos c list area
