-- One name that opens every definition for computing: a claim that says `unfolding opened` computes with them all. Assumes nothing.
use Rattle.forest.specs.Types.{lineage_from, lineage as lineage_over}
use Rattle.rules.specs.Block.{Bytes, every, zeros, marked, same_bytes}
use Rattle.rules.specs.Catalogue.{types, fields, type_byte, parent_of, length_of, key_kind, key_start, key_length, key_value, field_byte, field_type, field_start, field_length, field_value, lineage, level, is_type, good_key, good_parent, good_type, good_field, good_header, good_catalogue}
use Rattle.rules.specs.Listing.{digits, decimal}
use Rattle.statements.specs.Text.{bytes_of}
use Rattle.statements.specs.Words.{is_digit, is_letter, in_word, is_blank, in_front, joined, tokens, is_name, is_number, value_from, value, filled, trimmed, gap, spell}
use Rattle.statements.specs.Lines.{begins, lines_of, text_of}
use Rattle.statements.specs.Statement.{word_dbd, word_segm, word_field, word_name, word_parent, word_bytes, word_start, word_type, word_seq, no_parent, suits, marks, fits, formed, dbd_form, segm_form, span_form, field_form, key_form, word_in, word_at, kind_of, dbd_of, segm_of, field_of, key_of, statement_of, name_tokens, tokens_of}
use Rattle.statements.specs.Draft.{blank, joined_row, header, catalogue_of, names_of, rows, place_from, place_of, has, own_names, with_key, with_type, with_field, fault_number, ruled_type, ruled_field, begun, is_keyed, taken, taken_if, line_taken}
use Rattle.statements.specs.Dbd.{refused, given, ended, read_from, dbd_read, spelled, name_at, good_name, distinct, first_of, those, segment_name, field_name, own_fields, is_key_of, key_field, is_plain, good_names, differ, ascending, keys_listed, could_give, parent_word, segm_statement, field_statement, type_statements, statements, dbd_write}
use Rattle.statements.specs.Lent.{onto, high, ReadInto, handed_out, read_into, text_into, write_into}

unfoldable pub opened : Bytes → Bytes → Bytes → ReadInto
unfolding lineage_from lineage_over every zeros marked same_bytes types fields type_byte parent_of length_of key_kind key_start key_length key_value field_byte field_type field_start field_length field_value lineage level is_type good_key good_parent good_type good_field good_header good_catalogue digits decimal bytes_of is_digit is_letter in_word is_blank in_front joined tokens is_name is_number value_from value filled trimmed gap spell begins lines_of text_of word_dbd word_segm word_field word_name word_parent word_bytes word_start word_type word_seq no_parent suits marks fits formed dbd_form segm_form span_form field_form key_form word_in word_at kind_of dbd_of segm_of field_of key_of statement_of name_tokens tokens_of blank joined_row header catalogue_of names_of rows place_from place_of has own_names with_key with_type with_field fault_number ruled_type ruled_field begun is_keyed taken taken_if line_taken refused given ended read_from dbd_read spelled name_at good_name distinct first_of those segment_name field_name own_fields is_key_of key_field is_plain good_names differ ascending keys_listed could_give parent_word segm_statement field_statement type_statements statements dbd_write onto high handed_out read_into text_into write_into
opened text cat names = read_into text cat names
