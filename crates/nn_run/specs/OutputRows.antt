-- Whole inputs, and what is printed for them, byte for byte.
use Rattle.std.specs.Prelude.{◌≡◌, ℕ, true, false, List, [], ◌∷◌, ◌++◌, flat_map, codes, refl}
use Rattle.std.specs.Fmt.{digits}
use Rattle.std.specs.Str.{is_utf8, chars}
use Rattle.std.specs.Float.Numeral.{scan_numeral}
use lib.Utf8.{encode}
use Rattle.json.specs.Json.{value}
use Rattle.json.specs.Lex.{punctuate, lex}
use Rattle.json.specs.Print.{escape_byte}
use Rattle.json.specs.Text.{content}
use Rattle.json.specs.Word.{word, after_number}
use Rattle.serde_json.specs.Read.{number_of}
use Rattle.nn_bytes.specs.Lines.{line_feed}
use Rattle.nn_edits.specs.Reading.{edit_of_line, either_of_line, object_in, value_of, either_in, tx_in, op_in, op_of, txid_in, whole_in, number_in, path_in, profile_in, edit_in, block_in, items_in, blocks_in, report_in, dn_in, kind_in, kind_of}
use Rattle.nn_segment.specs.Lines.{reads_of}
use Rattle.nn_segment.specs.LogEnd.{end_of_log, end_of_txs}
use Rattle.nn_segment.specs.Name.{txids_of, segment_file_name, digits as name_digits}
use Rattle.nn_segment.specs.Reading.{read_segment, fault_of_segment}
use Rattle.nn_scenario.specs.Cut.{segments_from, parts_from}
use Rattle.nn_scenario.specs.Scenario.{scenario_of, lines_from}
use Rattle.nn_listing.specs.Summary.{summary_text, counts_text}
use Rattle.nn_listing.specs.Tables.{datanodes}
use Rattle.nn_image.specs.Text.{image_text, head_data, form_data, end_data}
use Rattle.nn_run.specs.declared.engine.Options.{Options}
use Rattle.nn_run.specs.Output.{Printed, output_of}
use Rattle.nn_run.specs.Start.{from_root}

-- what is asked for where the command line has no words
abbrev usual : Options
usual = record { settings = record { permille = 999; min = 1 }; history = false; summary = false; unsafe_blocks = false; image = false; from_image = false; leave_memory = false }

-- lines, each with its line feed
abbrev lines : List (List ℕ) → List ℕ
lines each = flat_map (λ l. l ++ line_feed ∷ []) each

-- a listing, beside which nothing is told; and a fault line, with the line that goes to standard error
abbrev listed : List (List ℕ) → Printed
listed each = record { text = lines each; status = 0; error = [] }

abbrev faulted : List ℕ → List ℕ → Printed
faulted line error = record { text = lines (line ∷ []); status = 1; error = lines (error ∷ []) }

nothing : output_of from_root usual [] ≡ listed (codes "txid 0" ∷ codes "dir \"/\"" ∷ codes "blocks 0 safe 0 needed 0 mode off" ∷ [])
unfolding output_of read_segment fault_of_segment txids_of segment_file_name name_digits reads_of edit_of_line end_of_txs scenario_of lines_from segments_from parts_from end_of_log digits escape_byte datanodes either_of_line either_in report_in dn_in kind_in kind_of object_in value_of tx_in op_in op_of txid_in whole_in number_in path_in profile_in edit_in blocks_in items_in block_in is_utf8 chars encode value punctuate lex content word after_number number_of scan_numeral
nothing = refl

-- A transaction that is refused, one that is missing, a segment with a fault, a line with a fault.
missing_parent : output_of from_root usual (lines (
    codes "{\"op\":\"OP_START_LOG_SEGMENT\",\"txid\":1}"
    ∷ codes "{\"op\":\"OP_MKDIR\",\"path\":\"/a/b\",\"txid\":2}"
    ∷ codes "{\"op\":\"OP_END_LOG_SEGMENT\",\"txid\":3}" ∷ []))
    ≡ faulted (codes "fault 22 txid 2") (codes "error: txid 2: the path or a parent of it is missing (fault 22; --explain 22 says more)")
unfolding output_of read_segment fault_of_segment txids_of segment_file_name name_digits reads_of edit_of_line end_of_txs scenario_of lines_from segments_from parts_from end_of_log digits escape_byte datanodes either_of_line either_in report_in dn_in kind_in kind_of object_in value_of tx_in op_in op_of txid_in whole_in number_in path_in profile_in edit_in blocks_in items_in block_in is_utf8 chars encode value punctuate lex content word after_number number_of scan_numeral
missing_parent = refl

log_begins_too_high : output_of from_root usual (lines (
    codes "{\"op\":\"OP_START_LOG_SEGMENT\",\"txid\":2}"
    ∷ codes "{\"op\":\"OP_END_LOG_SEGMENT\",\"txid\":3}" ∷ []))
    ≡ faulted (codes "fault 57 txid 1") (codes "error: txid 1: the transaction is missing (fault 57; --explain 57 says more)")
unfolding output_of read_segment fault_of_segment txids_of segment_file_name name_digits reads_of edit_of_line end_of_txs scenario_of lines_from segments_from parts_from end_of_log digits escape_byte datanodes either_of_line either_in report_in dn_in kind_in kind_of object_in value_of tx_in op_in op_of txid_in whole_in number_in path_in profile_in edit_in blocks_in items_in block_in is_utf8 chars encode value punctuate lex content word after_number number_of scan_numeral
log_begins_too_high = refl

gap_in_segment : output_of from_root usual (lines (
    codes "{\"op\":\"OP_START_LOG_SEGMENT\",\"txid\":1}"
    ∷ codes "{\"op\":\"OP_END_LOG_SEGMENT\",\"txid\":3}" ∷ []))
    ≡ faulted (codes "fault 14 segment 1") (codes "error: segment 1: transaction 2 is missing (fault 14; --explain 14 says more)")
unfolding output_of read_segment fault_of_segment txids_of segment_file_name name_digits reads_of edit_of_line end_of_txs scenario_of lines_from segments_from parts_from end_of_log digits escape_byte datanodes either_of_line either_in report_in dn_in kind_in kind_of object_in value_of tx_in op_in op_of txid_in whole_in number_in path_in profile_in edit_in blocks_in items_in block_in is_utf8 chars encode value punctuate lex content word after_number number_of scan_numeral
gap_in_segment = refl

bad_line : output_of from_root usual (lines (
    codes "{\"op\":\"OP_START_LOG_SEGMENT\",\"txid\":1}"
    ∷ codes ""
    ∷ codes "{\"op\":\"OP_MKDIR\",\"txid\":2}" ∷ []))
    ≡ faulted (codes "fault 2 line 3") (codes "error: line 3: a key is missing (fault 2; --explain 2 says more)")
unfolding output_of read_segment fault_of_segment txids_of segment_file_name name_digits reads_of edit_of_line end_of_txs scenario_of lines_from segments_from parts_from end_of_log digits escape_byte datanodes either_of_line either_in report_in dn_in kind_in kind_of object_in value_of tx_in op_in op_of txid_in whole_in number_in path_in profile_in edit_in blocks_in items_in block_in is_utf8 chars encode value punctuate lex content word after_number number_of scan_numeral
bad_line = refl

-- A report that comes before the log has its block.
early_report : output_of from_root usual (lines (
    codes "{\"op\":\"OP_START_LOG_SEGMENT\",\"txid\":1}"
    ∷ codes "{\"op\":\"OP_SET_GENSTAMP_V2\",\"gen\":1001,\"txid\":2}"
    ∷ codes "{\"op\":\"OP_ALLOCATE_BLOCK_ID\",\"id\":1073741825,\"txid\":3}"
    ∷ codes "{\"op\":\"OP_ADD\",\"path\":\"/f\",\"replication\":3,\"txid\":4}"
    ∷ codes "{\"dn\":1,\"block\":1073741825,\"gen\":1001,\"len\":5,\"kind\":\"received\"}"
    ∷ codes "{\"op\":\"OP_ADD_BLOCK\",\"gen\":1001,\"id\":1073741825,\"path\":\"/f\",\"txid\":5}"
    ∷ codes "{\"op\":\"OP_CLOSE\",\"blocks\":[{\"gen\":1001,\"id\":1073741825,\"len\":5}],\"path\":\"/f\",\"txid\":6}"
    ∷ codes "{\"op\":\"OP_END_LOG_SEGMENT\",\"txid\":7}" ∷ []))
    ≡ listed (codes "txid 7"
    ∷ codes "dir \"/\""
    ∷ codes "file \"/f\" 3 closed 1073741825:1001:5"
    ∷ codes "replica 1073741825 1 1001 5 received live"
    ∷ codes "blocks 1 safe 1 needed 0 mode off" ∷ [])
unfolding output_of read_segment fault_of_segment txids_of segment_file_name name_digits reads_of edit_of_line end_of_txs scenario_of lines_from segments_from parts_from end_of_log digits escape_byte datanodes either_of_line either_in report_in dn_in kind_in kind_of object_in value_of tx_in op_in op_of txid_in whole_in number_in path_in profile_in edit_in blocks_in items_in block_in is_utf8 chars encode value punctuate lex content word after_number number_of scan_numeral
early_report = refl

-- The same, where two live replicas make a block safe and all blocks have to be.
two_are_wanted : output_of from_root (record usual { settings = record { permille = 1000; min = 2 } }) (lines (
    codes "{\"op\":\"OP_START_LOG_SEGMENT\",\"txid\":1}"
    ∷ codes "{\"op\":\"OP_SET_GENSTAMP_V2\",\"gen\":1001,\"txid\":2}"
    ∷ codes "{\"op\":\"OP_ALLOCATE_BLOCK_ID\",\"id\":1073741825,\"txid\":3}"
    ∷ codes "{\"op\":\"OP_ADD\",\"path\":\"/f\",\"replication\":3,\"txid\":4}"
    ∷ codes "{\"dn\":1,\"block\":1073741825,\"gen\":1001,\"len\":5,\"kind\":\"received\"}"
    ∷ codes "{\"op\":\"OP_ADD_BLOCK\",\"gen\":1001,\"id\":1073741825,\"path\":\"/f\",\"txid\":5}"
    ∷ codes "{\"op\":\"OP_CLOSE\",\"blocks\":[{\"gen\":1001,\"id\":1073741825,\"len\":5}],\"path\":\"/f\",\"txid\":6}"
    ∷ codes "{\"op\":\"OP_END_LOG_SEGMENT\",\"txid\":7}" ∷ []))
    ≡ listed (codes "txid 7"
    ∷ codes "dir \"/\""
    ∷ codes "file \"/f\" 3 closed 1073741825:1001:5"
    ∷ codes "replica 1073741825 1 1001 5 received live"
    ∷ codes "blocks 1 safe 0 needed 1 mode on" ∷ [])
unfolding output_of read_segment fault_of_segment txids_of segment_file_name name_digits reads_of edit_of_line end_of_txs scenario_of lines_from segments_from parts_from end_of_log digits escape_byte datanodes either_of_line either_in report_in dn_in kind_in kind_of object_in value_of tx_in op_in op_of txid_in whole_in number_in path_in profile_in edit_in blocks_in items_in block_in is_utf8 chars encode value punctuate lex content word after_number number_of scan_numeral
two_are_wanted = refl

-- The same, with a summary and the blocks that keep safe mode on, behind the tables.
what_an_operator_reads : output_of from_root (record usual { settings = record { permille = 1000; min = 2 }; summary = true; unsafe_blocks = true }) (lines (
    codes "{\"op\":\"OP_START_LOG_SEGMENT\",\"txid\":1}"
    ∷ codes "{\"op\":\"OP_SET_GENSTAMP_V2\",\"gen\":1001,\"txid\":2}"
    ∷ codes "{\"op\":\"OP_ALLOCATE_BLOCK_ID\",\"id\":1073741825,\"txid\":3}"
    ∷ codes "{\"op\":\"OP_ADD\",\"path\":\"/f\",\"replication\":3,\"txid\":4}"
    ∷ codes "{\"dn\":1,\"block\":1073741825,\"gen\":1001,\"len\":5,\"kind\":\"received\"}"
    ∷ codes "{\"op\":\"OP_ADD_BLOCK\",\"gen\":1001,\"id\":1073741825,\"path\":\"/f\",\"txid\":5}"
    ∷ codes "{\"op\":\"OP_CLOSE\",\"blocks\":[{\"gen\":1001,\"id\":1073741825,\"len\":5}],\"path\":\"/f\",\"txid\":6}"
    ∷ codes "{\"op\":\"OP_END_LOG_SEGMENT\",\"txid\":7}" ∷ []))
    ≡ listed (codes "txid 7"
    ∷ codes "dir \"/\""
    ∷ codes "file \"/f\" 3 closed 1073741825:1001:5"
    ∷ codes "replica 1073741825 1 1001 5 received live"
    ∷ codes "blocks 1 safe 0 needed 1 mode on"
    ∷ codes "txid 7" ∷ codes "held 0" ∷ codes "datanode 1 1 held 0"
    ∷ codes "files 1" ∷ codes "directories 1" ∷ codes "file_blocks 1" ∷ codes "missing 0" ∷ codes "missing_of_one 0" ∷ codes "under_replicated 1" ∷ codes "over_replicated 0"
    ∷ codes "stale 0" ∷ codes "ahead 0" ∷ codes "wrong_length 0" ∷ codes "orders 0"
    ∷ codes "blocks 1 safe 0 needed 1 mode on"
    ∷ codes "unsafe 1073741825 1 \"/f\"" ∷ [])
unfolding output_of read_segment fault_of_segment txids_of segment_file_name name_digits reads_of edit_of_line end_of_txs scenario_of lines_from segments_from parts_from end_of_log digits escape_byte datanodes either_of_line either_in report_in dn_in kind_in kind_of object_in value_of tx_in op_in op_of txid_in whole_in number_in path_in profile_in edit_in blocks_in items_in block_in is_utf8 chars encode value punctuate lex content word after_number number_of scan_numeral summary_text counts_text
what_an_operator_reads = refl

-- With an image, of a file whose block was issued and never added.
with_an_image : output_of from_root (record usual { image = true }) (lines (
    codes "{\"op\":\"OP_START_LOG_SEGMENT\",\"txid\":1}"
    ∷ codes "{\"op\":\"OP_SET_GENSTAMP_V2\",\"gen\":1001,\"txid\":2}"
    ∷ codes "{\"op\":\"OP_ALLOCATE_BLOCK_ID\",\"id\":1073741825,\"txid\":3}"
    ∷ codes "{\"op\":\"OP_ADD\",\"path\":\"/f\",\"replication\":3,\"txid\":4}"
    ∷ codes "{\"op\":\"OP_END_LOG_SEGMENT\",\"txid\":5}" ∷ []))
    ≡ listed (codes "txid 5"
    ∷ codes "dir \"/\""
    ∷ codes "file \"/f\" 3 open"
    ∷ codes "blocks 0 safe 0 needed 0 mode off"
    ∷ codes "image"
    ∷ codes "{\"awaiting\":[1073741825],\"image\":\"hdfs-standby\",\"last_block\":1073741825,\"last_gen\":1001,\"profile\":1,\"txid\":5,\"version\":2}"
    ∷ codes "{\"blocks\":[],\"closed\":false,\"path\":\"/f\",\"replication\":3,\"type\":\"file\"}"
    ∷ codes "{\"end\":1}" ∷ [])
unfolding output_of read_segment fault_of_segment txids_of segment_file_name name_digits reads_of edit_of_line end_of_txs scenario_of lines_from segments_from parts_from end_of_log digits escape_byte datanodes either_of_line either_in report_in dn_in kind_in kind_of object_in value_of tx_in op_in op_of txid_in whole_in number_in path_in profile_in edit_in blocks_in items_in block_in is_utf8 chars encode value punctuate lex content word after_number number_of scan_numeral image_text head_data form_data end_data
with_an_image = refl
