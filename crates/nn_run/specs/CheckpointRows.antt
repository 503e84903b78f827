-- A log that is cut, and runs over what comes after the cut.
use Rattle.std.specs.Prelude.{◌≡◌, ℕ, ◌≤◌, false, List, [], ◌∷◌, ◌++◌, flat_map, length, Ok, Err, codes, refl}
use Rattle.std.proofs.Common.{arith}
use Rattle.std.specs.Fmt.{digits}
use Rattle.std.specs.Str.{is_utf8, chars}
use Rattle.std.specs.Float.Numeral.{scan_numeral}
use lib.Utf8.{encode}
use Rattle.json.specs.Json.{value}
use Rattle.json.specs.Lex.{punctuate, lex}
use Rattle.json.specs.Print.{escape_byte}
use Rattle.json.specs.Text.{content}
use Rattle.json.specs.Word.{word, after_number}
use Rattle.serde_json.specs.Read.{number_of as json_number}
use Rattle.nn_bytes.specs.Lines.{line_feed}
use Rattle.nn_types.specs.declared.edit.Edit.TheVariants.{StartSegment, EndSegment, Mkdir}
use Rattle.nn_types.specs.declared.profile.Profile.TheVariants.{One}
use Rattle.nn_types.specs.declared.tx.Tx.{Tx}
use Rattle.nn_model.specs.declared.form.Form.TheVariants.{Dir}
use Rattle.nn_model.specs.Lanes.{no_messages}
use Rattle.nn_model.specs.Log.{namespace_after}
use Rattle.nn_model.specs.MessageRows.{tx}
use Rattle.nn_model.specs.Namespace.{root_alone, with_row}
use Rattle.nn_image.specs.declared.fault.ImageFault.TheVariants.{BadLine}
use Rattle.nn_image.specs.Reading.{read_image, all_from, rows_from, pieces_of, object_of, value_of_line, number_under, text_under, flag_under, array_under, path_under, block_of, gathered, blocks_at, numbers_at, replication_value, file_in, form_by_kind, form_in, row_of_line, header_profile, fields_in}
use Rattle.nn_image.specs.Text.{image_text, head_data, form_data, end_data}
use Rattle.nn_listing.specs.Tables.{datanodes}
use Rattle.nn_segment.specs.LogEnd.{end_of_log, end_of_txs}
use Rattle.nn_segment.specs.Segment.{Segment}
use Rattle.nn_run.specs.declared.engine.Options.{Options}
use Rattle.nn_run.specs.Checkpoint.{start_after, HasNoGap}
use Rattle.nn_run.specs.Output.{Printed, after_segments}
use Rattle.nn_run.specs.Start.{from_root, from_image}

-- a segment of these transactions, whose bytes are not asked for
abbrev segment : List Tx → Segment
segment txs = record { name = []; bytes = []; txs = txs }

abbrev prefix : List Tx
prefix = tx 1 (StartSegment One) ∷ tx 2 (Mkdir (codes "a" ∷ [])) ∷ []

abbrev back : List Tx
back = tx 3 (Mkdir (codes "b" ∷ [])) ∷ tx 4 EndSegment ∷ []

leads_to : start_after prefix ≡ record { namespace = with_row root_alone (codes "a" ∷ []) Dir; txid = 2 }
leads_to = refl

-- ---- Gaps.

no_gap : HasNoGap 2 (segment back ∷ [])
no_gap = (omega arith, tt)

a_gap : HasNoGap 1 (segment back ∷ []) → ⊥
a_gap h = let first : 3 ≤ 2 = h.0 in omega (arith, first)

-- a segment may begin before the cut, and the next one goes on behind its last transaction
from_before_the_cut : HasNoGap 2 (segment (prefix ++ back) ∷ segment (tx 5 (StartSegment One) ∷ []) ∷ [])
from_before_the_cut = (omega arith, (omega arith, tt))

a_gap_behind_it : HasNoGap 2 (segment (prefix ++ back) ∷ segment (tx 6 (StartSegment One) ∷ []) ∷ []) → ⊥
a_gap_behind_it h = let first : 6 ≤ 5 = h.1.0 in omega (arith, first)

-- ---- What is printed.

abbrev usual : Options
usual = record { settings = record { permille = 999; min = 1 }; history = false; summary = false; unsafe_blocks = false; image = false; from_image = false; leave_memory = false }

abbrev lines : List (List ℕ) → List ℕ
lines each = flat_map (λ l. l ++ line_feed ∷ []) each

abbrev listing : Printed
listing = record {
  text = lines (codes "txid 4" ∷ codes "dir \"/\"" ∷ codes "dir \"/a\"" ∷ codes "dir \"/b\"" ∷ codes "blocks 0 safe 0 needed 0 mode off" ∷ []);
  status = 0;
  error = [];
}

-- the same over what comes after the cut, with or without what comes before it, and over the whole log
prints_the_same : (after_segments from_root usual no_messages (Ok (segment (prefix ++ back) ∷ [])) ≡ listing)
    × (after_segments (start_after prefix) usual no_messages (Ok (segment back ∷ [])) ≡ listing)
    × (after_segments (start_after prefix) usual no_messages (Ok (segment (prefix ++ back) ∷ [])) ≡ listing)
unfolding end_of_log end_of_txs digits escape_byte datanodes
prints_the_same = (refl, refl, refl)

-- and a fault over a gap
over_a_gap : after_segments (start_after prefix) usual no_messages (Ok (segment (tx 4 EndSegment ∷ []) ∷ [])) ≡ record {
  text = lines (codes "fault 57 txid 3" ∷ []);
  status = 1;
  error = lines (codes "error: txid 3: the transaction is missing (fault 57; --explain 57 says more)" ∷ []);
}
unfolding end_of_log end_of_txs digits escape_byte datanodes
over_a_gap = refl

-- ---- Where its image starts a run.

starts_there : from_image (read_image (image_text (namespace_after root_alone prefix) (length prefix))) ≡ Ok (start_after prefix)
unfolding image_text head_data form_data end_data escape_byte read_image all_from rows_from pieces_of object_of value_of_line number_under text_under flag_under array_under path_under block_of gathered blocks_at numbers_at replication_value file_in form_by_kind form_in row_of_line header_profile fields_in digits is_utf8 chars encode value punctuate lex content word after_number json_number scan_numeral
starts_there = refl

-- a name that is not UTF-8 is not read back
no_text : from_image (read_image (image_text (with_row root_alone ((255 ∷ []) ∷ []) Dir) 2)) ≡ Err (BadLine 2)
unfolding image_text head_data form_data end_data escape_byte read_image all_from rows_from pieces_of object_of value_of_line number_under text_under flag_under array_under path_under block_of gathered blocks_at numbers_at replication_value file_in form_by_kind form_in row_of_line header_profile fields_in digits is_utf8 chars encode value punctuate lex content word after_number json_number scan_numeral
no_text = refl
