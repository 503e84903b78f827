-- Edges of what a service writes, which the other examples leave open.
use Rattle.std.specs.Prelude.{◌≡◌, ◌<◌, ℕ, true, false, Bool, List, [], ◌∷◌, ◌++◌, length, flat_map, None, codes, refl}
use Rattle.std.proofs.lemmas.Bool.{lt-leb}
use Rattle.std.specs.Fmt.{digits}
use Rattle.std.specs.Str.{is_utf8, chars}
use Rattle.std.specs.Float.Numeral.{scan_numeral}
use lib.Utf8.{encode}
use Rattle.json.specs.Json.{value}
use Rattle.json.specs.Lex.{punctuate, lex}
use Rattle.json.specs.Print.{escape_byte}
use Rattle.json.specs.Text.{content}
use Rattle.json.specs.Word.{word, after_number}
use Rattle.serde_json.specs.Read.{number_of}
use Rattle.nn_bytes.specs.Lines.{line_feed}
use Rattle.nn_edits.specs.Reading.{edit_of_line, either_of_line, object_in, value_of, either_in, tx_in, op_in, op_of, txid_in, whole_in, number_in, path_in, profile_in, edit_in, block_in, items_in, blocks_in, report_in, dn_in, kind_in, kind_of}
use Rattle.nn_segment.specs.Lines.{reads_of}
use Rattle.nn_segment.specs.Name.{txids_of, segment_file_name, digits as name_digits}
use Rattle.nn_segment.specs.Reading.{read_segment, fault_of_segment}
use Rattle.nn_listing.specs.Summary.{counts_text, summary_text}
use Rattle.nn_listing.specs.Tables.{datanodes}
use Rattle.nn_image.specs.Reading.{is_end_line, read_image, all_from, rows_from, pieces_of, object_of, value_of_line, number_under, text_under, flag_under, array_under, path_under, block_of, gathered, blocks_at, numbers_at, replication_value, file_in, form_by_kind, form_in, row_of_line, header_profile, fields_in}
use Rattle.nn_image.specs.Text.{image_text, head_data, form_data, end_data}
use Rattle.nn_live.specs.Live.{exit_status, stage_at_end, takes, takes_all, takes_torn, takes_pieces}
use Rattle.nn_live.specs.Words.{word_alone, word_in}
use Rattle.nn_live.specs.LiveRows.{lines, live, asks, counts_of_the_root}

-- of a segment of three that overlaps the one before by two, two transactions are passed over, and one is new
passed_in_part : live (
    codes "{\"op\":\"OP_START_LOG_SEGMENT\",\"txid\":1}"
    ∷ codes "{\"op\":\"OP_MKDIR\",\"path\":\"/a\",\"txid\":2}"
    ∷ codes "{\"op\":\"OP_DELETE\",\"path\":\"/a\",\"txid\":3}"
    ∷ codes "{\"op\":\"OP_END_LOG_SEGMENT\",\"txid\":4}"
    ∷ codes "{\"op\":\"OP_START_LOG_SEGMENT\",\"txid\":3}"
    ∷ codes "{\"op\":\"OP_MKDIR\",\"path\":\"/b\",\"txid\":4}"
    ∷ codes "{\"op\":\"OP_END_LOG_SEGMENT\",\"txid\":5}"
    ∷ codes "status" ∷ [])
    ≡ lines ((codes "state standby" ∷ codes "version 1.2.3" ∷ codes "known 5" ∷ codes "passed 2" ∷ codes "segments 2" ∷ codes "edits 0 0" ∷ codes "epoch 0 0" ∷ codes "txid 5" ∷ codes "held 0" ∷ [])
    ++ counts_of_the_root ++ codes "blocks 0 safe 0 needed 0 mode off" ∷ codes "done 8" ∷ [])
unfolding counts_text summary_text takes takes_all takes_torn takes_pieces word_in word_alone read_segment fault_of_segment txids_of segment_file_name name_digits reads_of edit_of_line digits escape_byte datanodes either_of_line either_in report_in dn_in kind_in kind_of object_in value_of tx_in op_in op_of txid_in whole_in number_in path_in profile_in edit_in blocks_in items_in block_in is_utf8 chars encode value punctuate lex content word after_number number_of scan_numeral image_text head_data form_data end_data
passed_in_part = refl

-- a segment that begins one above the next transaction is behind a gap
behind_a_gap_of_one : live (
    codes "{\"op\":\"OP_START_LOG_SEGMENT\",\"txid\":2}"
    ∷ codes "{\"op\":\"OP_END_LOG_SEGMENT\",\"txid\":3}"
    ∷ codes "sync" ∷ [])
    ≡ lines (codes "fault 57 txid 1 segment 1" ∷ codes "done 3" ∷ [])
unfolding takes takes_all takes_torn takes_pieces word_in word_alone read_segment fault_of_segment txids_of segment_file_name name_digits reads_of edit_of_line digits escape_byte datanodes either_of_line either_in report_in dn_in kind_in kind_of object_in value_of tx_in op_in op_of txid_in whole_in number_in path_in profile_in edit_in blocks_in items_in block_in is_utf8 chars encode value punctuate lex content word after_number number_of scan_numeral image_text head_data form_data end_data
behind_a_gap_of_one = refl

-- a promotion of a stopped standby is told that first, though a segment is in hand, and the log ends elsewhere
promotion_of_a_stopped_one : live (
    codes "{\"op\":\"OP_START_LOG_SEGMENT\",\"txid\":1}"
    ∷ codes "{\"op\":\"OP_MKDIR\",\"path\":\"/a/b\",\"txid\":2}"
    ∷ codes "{\"op\":\"OP_END_LOG_SEGMENT\",\"txid\":3}"
    ∷ codes "{\"op\":\"OP_START_LOG_SEGMENT\",\"txid\":4}"
    ∷ codes "promote 9" ∷ [])
    ≡ lines (codes "fault 22 txid 2" ∷ codes "fault 51 line 5" ∷ codes "done 5" ∷ codes "fault 13 segment 2" ∷ [])
unfolding takes takes_all takes_torn takes_pieces word_in word_alone read_segment fault_of_segment txids_of segment_file_name name_digits reads_of edit_of_line digits escape_byte datanodes either_of_line either_in report_in dn_in kind_in kind_of object_in value_of tx_in op_in op_of txid_in whole_in number_in path_in profile_in edit_in blocks_in items_in block_in is_utf8 chars encode value punctuate lex content word after_number number_of scan_numeral image_text head_data form_data end_data
promotion_of_a_stopped_one = refl

-- so many unsafe blocks, and how many more
some_that_are_unsafe : live (
    codes "{\"op\":\"OP_START_LOG_SEGMENT\",\"txid\":1}"
    ∷ codes "{\"op\":\"OP_SET_GENSTAMP_V2\",\"gen\":1001,\"txid\":2}"
    ∷ codes "{\"op\":\"OP_ALLOCATE_BLOCK_ID\",\"id\":1073741825,\"txid\":3}"
    ∷ codes "{\"op\":\"OP_ADD\",\"path\":\"/f\",\"replication\":3,\"txid\":4}"
    ∷ codes "{\"op\":\"OP_ADD_BLOCK\",\"gen\":1001,\"id\":1073741825,\"path\":\"/f\",\"txid\":5}"
    ∷ codes "{\"op\":\"OP_CLOSE\",\"blocks\":[{\"gen\":1001,\"id\":1073741825,\"len\":5}],\"path\":\"/f\",\"txid\":6}"
    ∷ codes "{\"op\":\"OP_END_LOG_SEGMENT\",\"txid\":7}"
    ∷ codes "unsafe 1"
    ∷ codes "unsafe 0" ∷ [])
    ≡ lines (codes "unsafe 1073741825 0 \"/f\"" ∷ codes "more 0" ∷ codes "done 8" ∷ codes "more 1" ∷ codes "done 9" ∷ [])
unfolding takes takes_all takes_torn takes_pieces word_in word_alone read_segment fault_of_segment txids_of segment_file_name name_digits reads_of edit_of_line digits escape_byte datanodes either_of_line either_in report_in dn_in kind_in kind_of object_in value_of tx_in op_in op_of txid_in whole_in number_in path_in profile_in edit_in blocks_in items_in block_in is_utf8 chars encode value punctuate lex content word after_number number_of scan_numeral image_text head_data form_data end_data
some_that_are_unsafe = refl

-- the orders of a block that is in no file any more
a_block_with_an_order : live (
    codes "{\"op\":\"OP_START_LOG_SEGMENT\",\"txid\":1}"
    ∷ codes "{\"op\":\"OP_SET_GENSTAMP_V2\",\"gen\":1001,\"txid\":2}"
    ∷ codes "{\"op\":\"OP_ALLOCATE_BLOCK_ID\",\"id\":1073741825,\"txid\":3}"
    ∷ codes "{\"op\":\"OP_ADD\",\"path\":\"/f\",\"replication\":3,\"txid\":4}"
    ∷ codes "{\"op\":\"OP_ADD_BLOCK\",\"gen\":1001,\"id\":1073741825,\"path\":\"/f\",\"txid\":5}"
    ∷ codes "{\"op\":\"OP_CLOSE\",\"blocks\":[{\"gen\":1001,\"id\":1073741825,\"len\":5}],\"path\":\"/f\",\"txid\":6}"
    ∷ codes "{\"op\":\"OP_END_LOG_SEGMENT\",\"txid\":7}"
    ∷ codes "{\"dn\":1,\"block\":1073741825,\"gen\":1001,\"len\":5,\"kind\":\"received\"}"
    ∷ codes "{\"op\":\"OP_START_LOG_SEGMENT\",\"txid\":8}"
    ∷ codes "{\"op\":\"OP_DELETE\",\"path\":\"/f\",\"txid\":9}"
    ∷ codes "{\"op\":\"OP_END_LOG_SEGMENT\",\"txid\":10}"
    ∷ codes "block 1073741825" ∷ [])
    ≡ lines (codes "order 1073741825 1" ∷ codes "done 12" ∷ [])
unfolding takes takes_all takes_torn takes_pieces word_in word_alone read_segment fault_of_segment txids_of segment_file_name name_digits reads_of edit_of_line digits escape_byte datanodes either_of_line either_in report_in dn_in kind_in kind_of object_in value_of tx_in op_in op_of txid_in whole_in number_in path_in profile_in edit_in blocks_in items_in block_in is_utf8 chars encode value punctuate lex content word after_number number_of scan_numeral image_text head_data form_data end_data
a_block_with_an_order = refl

-- a stopped service says at which transaction, and by which fault
status_of_a_stopped : live (
    codes "{\"op\":\"OP_START_LOG_SEGMENT\",\"txid\":1}"
    ∷ codes "{\"op\":\"OP_MKDIR\",\"path\":\"/a/b\",\"txid\":2}"
    ∷ codes "{\"op\":\"OP_END_LOG_SEGMENT\",\"txid\":3}"
    ∷ codes "status" ∷ [])
    ≡ lines ((codes "fault 22 txid 2" ∷ codes "state stopped 22 2" ∷ codes "version 1.2.3" ∷ codes "known 3" ∷ codes "passed 0" ∷ codes "segments 1" ∷ codes "edits 0 0" ∷ codes "epoch 0 0" ∷ codes "txid 1" ∷ codes "held 0" ∷ [])
    ++ counts_of_the_root ++ codes "blocks 0 safe 0 needed 0 mode off" ∷ codes "done 4" ∷ [])
unfolding counts_text summary_text takes takes_all takes_torn takes_pieces word_in word_alone read_segment fault_of_segment txids_of segment_file_name name_digits reads_of edit_of_line digits escape_byte datanodes either_of_line either_in report_in dn_in kind_in kind_of object_in value_of tx_in op_in op_of txid_in whole_in number_in path_in profile_in edit_in blocks_in items_in block_in is_utf8 chars encode value punctuate lex content word after_number number_of scan_numeral image_text head_data form_data end_data
status_of_a_stopped = refl

-- ---- The status that the process ends with.

-- 0 also where something was told
ends_well : exit_status (stage_at_end (asks false) false (lines (codes "statu" ∷ []))) ≡ 0
unfolding takes takes_all takes_torn takes_pieces word_in word_alone read_segment fault_of_segment txids_of segment_file_name name_digits reads_of edit_of_line digits escape_byte datanodes either_of_line either_in report_in dn_in kind_in kind_of object_in value_of tx_in op_in op_of txid_in whole_in number_in path_in profile_in edit_in blocks_in items_in block_in is_utf8 chars encode value punctuate lex content word after_number number_of scan_numeral image_text head_data form_data end_data
ends_well = refl

-- 1 where the log was stopped
ends_stopped : exit_status (stage_at_end (asks false) false (lines (codes "{\"op\":\"OP_START_LOG_SEGMENT\",\"txid\":1}" ∷ codes "{\"op\":\"OP_MKDIR\",\"path\":\"/a/b\",\"txid\":2}" ∷ codes "{\"op\":\"OP_END_LOG_SEGMENT\",\"txid\":3}" ∷ []))) ≡ 1
unfolding takes takes_all takes_torn takes_pieces word_in word_alone read_segment fault_of_segment txids_of segment_file_name name_digits reads_of edit_of_line digits escape_byte datanodes either_of_line either_in report_in dn_in kind_in kind_of object_in value_of tx_in op_in op_of txid_in whole_in number_in path_in profile_in edit_in blocks_in items_in block_in is_utf8 chars encode value punctuate lex content word after_number number_of scan_numeral image_text head_data form_data end_data
ends_stopped = refl

-- where an image is refused
ends_refused : exit_status (stage_at_end (asks false) true (lines (codes "sync" ∷ []))) ≡ 1
unfolding takes takes_all takes_torn takes_pieces word_in word_alone read_segment fault_of_segment txids_of segment_file_name name_digits reads_of edit_of_line digits escape_byte datanodes either_of_line either_in report_in dn_in kind_in kind_of object_in value_of tx_in op_in op_of txid_in whole_in number_in path_in profile_in edit_in blocks_in items_in block_in is_utf8 chars encode value punctuate lex content word after_number number_of scan_numeral image_text head_data form_data end_data is_end_line read_image all_from rows_from pieces_of object_of value_of_line number_under text_under flag_under array_under path_under block_of gathered blocks_at numbers_at replication_value file_in form_by_kind form_in row_of_line header_profile fields_in
ends_refused = refl

-- and where it has not ended
ends_loading : exit_status (stage_at_end (asks false) true (lines (codes "{\"awaiting\":[],\"image\":\"hdfs-standby\",\"last_block\":1073741824,\"last_gen\":1000,\"profile\":1,\"txid\":5,\"version\":2}" ∷ []))) ≡ 1
unfolding takes takes_all takes_torn takes_pieces word_in word_alone read_segment fault_of_segment txids_of segment_file_name name_digits reads_of edit_of_line digits escape_byte datanodes either_of_line either_in report_in dn_in kind_in kind_of object_in value_of tx_in op_in op_of txid_in whole_in number_in path_in profile_in edit_in blocks_in items_in block_in is_utf8 chars encode value punctuate lex content word after_number number_of scan_numeral image_text head_data form_data end_data is_end_line read_image all_from rows_from pieces_of object_of value_of_line number_under text_under flag_under array_under path_under block_of gathered blocks_at numbers_at replication_value file_in form_by_kind form_in row_of_line header_profile fields_in
ends_loading = refl
