-- Words and what is told of them: of one block, of what words there are, and of lines that are none.
use Rattle.std.specs.Prelude.{◌≡◌, ℕ, suc, nat_le, if◌then◌else◌, true, false, Bool, List, [], ◌∷◌, ◌++◌, length, Option, Some, None, codes, refl}
use Rattle.std.proofs.Common.{ap, ◌∙◌}
use Rattle.std.specs.Fmt.{digits}
use Rattle.std.specs.Str.{is_utf8, chars}
use Rattle.std.specs.Float.Numeral.{scan_numeral}
use lib.Utf8.{encode}
use Rattle.json.specs.Json.{value}
use Rattle.json.specs.Lex.{punctuate, lex}
use Rattle.json.specs.Print.{escape_byte}
use Rattle.json.specs.Text.{content}
use Rattle.json.specs.Word.{word, after_number}
use Rattle.serde_json.specs.Read.{number_of}
use Rattle.nn_bytes.specs.Lines.{line_feed}
use Rattle.nn_edits.specs.Reading.{edit_of_line, either_of_line, object_in, value_of, either_in, tx_in, op_in, op_of, txid_in, whole_in, number_in, path_in, profile_in, edit_in, block_in, items_in, blocks_in, report_in, dn_in, kind_in, kind_of}
use Rattle.nn_segment.specs.Lines.{reads_of}
use Rattle.nn_segment.specs.Name.{txids_of, segment_file_name, digits as name_digits}
use Rattle.nn_segment.specs.Reading.{read_segment, fault_of_segment}
use Rattle.nn_listing.specs.Summary.{counts_text, summary_text}
use Rattle.nn_listing.specs.Tables.{datanodes}
use Rattle.nn_image.specs.Reading.{is_end_line, read_image, all_from, rows_from, pieces_of, object_of, value_of_line, number_under, text_under, flag_under, array_under, path_under, block_of, gathered, blocks_at, numbers_at, replication_value, file_in, form_by_kind, form_in, row_of_line, header_profile, fields_in}
use Rattle.nn_image.specs.Text.{image_text, head_data, form_data, end_data}
use Rattle.nn_live.specs.Live.{LiveSetup, live_text, takes, takes_all, takes_torn, takes_pieces}
use Rattle.nn_live.specs.Help.{help_lines}
use Rattle.nn_live.specs.LiveRows.{lines, live, asks}
use Rattle.nn_live.specs.Words.{known_word, or_else, word_alone, word_in}
use Rattle.nn_live.specs.declared.word.Word.TheVariants as kind

-- ---- One block, without its path.

-- the block as a file holds it, its replicas by DataNode, and what waits: as `block` tells them behind the path
replicas_of_a_block : live (
    codes "{\"op\":\"OP_START_LOG_SEGMENT\",\"txid\":1}"
    ∷ codes "{\"op\":\"OP_SET_GENSTAMP_V2\",\"gen\":1001,\"txid\":2}"
    ∷ codes "{\"op\":\"OP_ALLOCATE_BLOCK_ID\",\"id\":1073741825,\"txid\":3}"
    ∷ codes "{\"op\":\"OP_ADD\",\"path\":\"/f\",\"replication\":3,\"txid\":4}"
    ∷ codes "{\"op\":\"OP_ADD_BLOCK\",\"gen\":1001,\"id\":1073741825,\"path\":\"/f\",\"txid\":5}"
    ∷ codes "{\"op\":\"OP_CLOSE\",\"blocks\":[{\"gen\":1001,\"id\":1073741825,\"len\":5}],\"path\":\"/f\",\"txid\":6}"
    ∷ codes "{\"op\":\"OP_END_LOG_SEGMENT\",\"txid\":7}"
    ∷ codes "{\"dn\":2,\"block\":1073741825,\"gen\":1001,\"len\":5,\"kind\":\"received\"}"
    ∷ codes "{\"dn\":1,\"block\":1073741825,\"gen\":1001,\"len\":5,\"kind\":\"received\"}"
    ∷ codes "{\"dn\":3,\"block\":1073741825,\"gen\":1002,\"len\":5,\"kind\":\"received\"}"
    ∷ codes "replicas 1073741825"
    ∷ codes "block 1073741825" ∷ [])
    ≡ lines (codes "block 1073741825 1001 5" ∷ codes "replica 1073741825 1 1001 5 received live" ∷ codes "replica 1073741825 2 1001 5 received live" ∷ codes "held 1073741825 3 1 1002 received" ∷ codes "done 11" ∷ codes "block 1073741825 1001 5 \"/f\"" ∷ codes "replica 1073741825 1 1001 5 received live" ∷ codes "replica 1073741825 2 1001 5 received live" ∷ codes "held 1073741825 3 1 1002 received" ∷ codes "done 12" ∷ [])
unfolding takes takes_all takes_torn takes_pieces word_in word_alone read_segment fault_of_segment txids_of segment_file_name name_digits reads_of edit_of_line digits escape_byte datanodes either_of_line either_in report_in dn_in kind_in kind_of object_in value_of tx_in op_in op_of txid_in whole_in number_in path_in profile_in edit_in blocks_in items_in block_in is_utf8 chars encode value punctuate lex content word after_number number_of scan_numeral image_text head_data form_data end_data
replicas_of_a_block = refl

-- of a block without a file its orders, by DataNode
orders_of_a_block : live (
    codes "{\"op\":\"OP_START_LOG_SEGMENT\",\"txid\":1}"
    ∷ codes "{\"op\":\"OP_SET_GENSTAMP_V2\",\"gen\":1001,\"txid\":2}"
    ∷ codes "{\"op\":\"OP_ALLOCATE_BLOCK_ID\",\"id\":1073741825,\"txid\":3}"
    ∷ codes "{\"op\":\"OP_ADD\",\"path\":\"/f\",\"replication\":3,\"txid\":4}"
    ∷ codes "{\"op\":\"OP_ADD_BLOCK\",\"gen\":1001,\"id\":1073741825,\"path\":\"/f\",\"txid\":5}"
    ∷ codes "{\"op\":\"OP_CLOSE\",\"blocks\":[{\"gen\":1001,\"id\":1073741825,\"len\":5}],\"path\":\"/f\",\"txid\":6}"
    ∷ codes "{\"op\":\"OP_END_LOG_SEGMENT\",\"txid\":7}"
    ∷ codes "{\"dn\":2,\"block\":1073741825,\"gen\":1001,\"len\":5,\"kind\":\"received\"}"
    ∷ codes "{\"dn\":1,\"block\":1073741825,\"gen\":1001,\"len\":5,\"kind\":\"received\"}"
    ∷ codes "{\"op\":\"OP_START_LOG_SEGMENT\",\"txid\":8}"
    ∷ codes "{\"op\":\"OP_DELETE\",\"path\":\"/f\",\"txid\":9}"
    ∷ codes "{\"op\":\"OP_END_LOG_SEGMENT\",\"txid\":10}"
    ∷ codes "replicas 1073741825"
    ∷ codes "block 1073741825" ∷ [])
    ≡ lines (codes "order 1073741825 1" ∷ codes "order 1073741825 2" ∷ codes "done 13" ∷ codes "order 1073741825 1" ∷ codes "order 1073741825 2" ∷ codes "done 14" ∷ [])
unfolding takes takes_all takes_torn takes_pieces word_in word_alone read_segment fault_of_segment txids_of segment_file_name name_digits reads_of edit_of_line digits escape_byte datanodes either_of_line either_in report_in dn_in kind_in kind_of object_in value_of tx_in op_in op_of txid_in whole_in number_in path_in profile_in edit_in blocks_in items_in block_in is_utf8 chars encode value punctuate lex content word after_number number_of scan_numeral image_text head_data form_data end_data
orders_of_a_block = refl

-- of one that no edit named what waits about it, and nothing that waits about another; of one that nobody knows nothing
block_that_nobody_knows : live (
    codes "{\"dn\":1,\"block\":1073741825,\"gen\":1001,\"len\":5,\"kind\":\"received\"}"
    ∷ codes "{\"dn\":2,\"block\":1073741826,\"gen\":1001,\"len\":5,\"kind\":\"received\"}"
    ∷ codes "replicas 1073741825"
    ∷ codes "replicas 1073741827"
    ∷ codes "replicas 01" ∷ [])
    ≡ lines (codes "held 1073741825 1 1 1001 received" ∷ codes "done 3" ∷ codes "done 4" ∷ codes "unknown" ∷ codes "done 5" ∷ [])
unfolding takes takes_all takes_torn takes_pieces word_in word_alone read_segment fault_of_segment txids_of segment_file_name name_digits reads_of edit_of_line digits escape_byte datanodes either_of_line either_in report_in dn_in kind_in kind_of object_in value_of tx_in op_in op_of txid_in whole_in number_in path_in profile_in edit_in blocks_in items_in block_in is_utf8 chars encode value punctuate lex content word after_number number_of scan_numeral image_text head_data form_data end_data
block_that_nobody_knows = refl

-- ---- Which words there are.

helped : live (codes "help" ∷ [])
    ≡ lines (codes "sync" ∷ codes "status" ∷ codes "held [N]" ∷ codes "unsafe [N]" ∷ codes "block ID" ∷ codes "replicas ID" ∷ codes "path \"TEXT\"" ∷ codes "tables" ∷ codes "checkpoint"
    ∷ codes "gone D" ∷ codes "seen T" ∷ codes "epoch E" ∷ codes "promote T [epoch E] [lost]" ∷ codes "help" ∷ codes "done 1" ∷ [])
unfolding takes takes_all takes_torn takes_pieces word_in word_alone read_segment fault_of_segment txids_of segment_file_name name_digits reads_of edit_of_line digits escape_byte datanodes either_of_line either_in report_in dn_in kind_in kind_of object_in value_of tx_in op_in op_of txid_in whole_in number_in path_in profile_in edit_in blocks_in items_in block_in is_utf8 chars encode value punctuate lex content word after_number number_of scan_numeral image_text head_data form_data end_data
helped = refl

-- ---- Lines that begin as words do, and are none.

-- a blank behind, more words than there are, a carriage return; the first and the last letter; what JSON has beside objects
unknown_lines : live (
    codes "sync "
    ∷ codes "sync now"
    ∷ codes "a"
    ∷ codes "z"
    ∷ codes "true"
    ∷ codes "null" ∷ [])
    ≡ lines (codes "unknown" ∷ codes "done 1" ∷ codes "unknown" ∷ codes "done 2" ∷ codes "unknown" ∷ codes "done 3" ∷ codes "unknown" ∷ codes "done 4" ∷ codes "unknown" ∷ codes "done 5" ∷ codes "unknown" ∷ codes "done 6" ∷ [])
unfolding takes takes_all takes_torn takes_pieces word_in word_alone read_segment fault_of_segment txids_of segment_file_name name_digits reads_of edit_of_line digits escape_byte datanodes either_of_line either_in report_in dn_in kind_in kind_of object_in value_of tx_in op_in op_of txid_in whole_in number_in path_in profile_in edit_in blocks_in items_in block_in is_utf8 chars encode value punctuate lex content word after_number number_of scan_numeral image_text head_data form_data end_data
unknown_lines = refl

-- whatever bytes follow: here one that no UTF-8 has, and a carriage return
unknown_bytes : live ((codes "sync" ++ 255 ∷ []) ∷ (codes "sync" ++ 13 ∷ []) ∷ []) ≡ lines (codes "unknown" ∷ codes "done 1" ∷ codes "unknown" ∷ codes "done 2" ∷ [])
unfolding takes takes_all takes_torn takes_pieces word_in word_alone read_segment fault_of_segment txids_of segment_file_name name_digits reads_of edit_of_line digits escape_byte datanodes either_of_line either_in report_in dn_in kind_in kind_of object_in value_of tx_in op_in op_of txid_in whole_in number_in path_in profile_in edit_in blocks_in items_in block_in is_utf8 chars encode value punctuate lex content word after_number number_of scan_numeral image_text head_data form_data end_data
unknown_bytes = refl

-- of up to 65,536 bytes
longest_unknown : (rest : List ℕ) → length rest ≡ 65535 → word_in (120 ∷ rest) ≡ Some kind.Unknown
unfolding word_in word_alone
longest_unknown rest is = ap (λ b. if b then or_else (known_word (120 ∷ rest)) (Some kind.Unknown) else None) (ap (λ n. nat_le (suc n) 65536) is) ∙ either_way (is_utf8 (120 ∷ rest))
  where
    either_way : (utf8 : Bool) → or_else (if utf8 then None else None) (Some kind.Unknown) ≡ Some kind.Unknown
    either_way true = refl
    either_way false = refl

-- of a line that begins otherwise a fault is told, and no `done`: a capital letter, a blank, a digit, a quotation mark, an array, and the bytes before a and behind z
still_told : live (
    codes "Sync"
    ∷ codes " sync"
    ∷ codes "7"
    ∷ codes "\"sync\""
    ∷ codes "[]"
    ∷ codes "`sync"
    ∷ codes "|sync"
    ∷ codes "sync" ∷ [])
    ≡ lines (codes "fault 1 line 1" ∷ codes "fault 1 line 2" ∷ codes "fault 1 line 3" ∷ codes "fault 1 line 4" ∷ codes "fault 1 line 5" ∷ codes "fault 1 line 6" ∷ codes "fault 1 line 7" ∷ codes "done 8" ∷ [])
unfolding takes takes_all takes_torn takes_pieces word_in word_alone read_segment fault_of_segment txids_of segment_file_name name_digits reads_of edit_of_line digits escape_byte datanodes either_of_line either_in report_in dn_in kind_in kind_of object_in value_of tx_in op_in op_of txid_in whole_in number_in path_in profile_in edit_in blocks_in items_in block_in is_utf8 chars encode value punctuate lex content word after_number number_of scan_numeral image_text head_data form_data end_data
still_told = refl

-- and of what begins as a word does, where its line feed never came
still_torn : (live_text (asks false) false (codes "sync") ≡ lines (codes "fault 1 line 1" ∷ [])) × (live_text (asks false) false (codes "statu") ≡ lines (codes "fault 1 line 1" ∷ []))
unfolding takes takes_all takes_torn takes_pieces word_in word_alone read_segment fault_of_segment txids_of segment_file_name name_digits reads_of edit_of_line digits escape_byte datanodes either_of_line either_in report_in dn_in kind_in kind_of object_in value_of tx_in op_in op_of txid_in whole_in number_in path_in profile_in edit_in blocks_in items_in block_in is_utf8 chars encode value punctuate lex content word after_number number_of scan_numeral image_text head_data form_data end_data
still_torn = (refl, refl)
