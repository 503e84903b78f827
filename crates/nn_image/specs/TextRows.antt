-- Whole texts, as the images that they are or the first fault that they have, computed; and what an image is.
use Rattle.std.specs.Prelude.{◌≡◌, ℕ, List, [], ◌∷◌, ◌++◌, flat_map, map, Ok, Err, codes, refl}
use Rattle.std.specs.Fmt.{digits}
use Rattle.std.specs.Str.{is_utf8, chars}
use Rattle.std.specs.Float.Numeral.{scan_numeral}
use lib.Utf8.{encode}
use Rattle.json.specs.Json.{value}
use Rattle.json.specs.Lex.{punctuate, lex}
use Rattle.json.specs.Text.{content}
use Rattle.json.specs.Word.{word, after_number}
use Rattle.serde_json.specs.Read.{number_of as json_number}
use Rattle.nn_bytes.specs.Lines.{line_feed}
use Rattle.nn_model.proofs.Equals.{root_alone_is_well_formed}
use Rattle.nn_model.specs.declared.form.Form.TheVariants.{Dir}
use Rattle.nn_model.specs.Namespace.{Namespace, root_alone, with_row}
use Rattle.nn_image.specs.declared.fault.ImageFault.TheVariants.{NotHeader, BadLine, WrongOrder, CountMismatch, Truncated, BadVersion}
use Rattle.nn_image.specs.Fault.{number_of as fault_number}
use Rattle.nn_image.specs.Image.{IsImage}
use Rattle.nn_image.specs.Reading.{read_image, all_from, rows_from, pieces_of, object_of, value_of_line, number_under, text_under, flag_under, array_under, path_under, block_of, gathered, blocks_at, numbers_at, replication_value, file_in, form_by_kind, form_in, row_of_line, header_profile, fields_in}

abbrev pub lines : List (List ℕ) → List ℕ
lines each = flat_map (λ l. l ++ line_feed ∷ []) each

abbrev pub header : List ℕ
header = codes "{\"awaiting\":[],\"image\":\"hdfs-standby\",\"last_block\":1073741824,\"last_gen\":1000,\"profile\":1,\"txid\":5,\"version\":2}"

abbrev dir_a : List ℕ
dir_a = codes "{\"path\":\"/a\",\"type\":\"dir\"}"

abbrev last : List ℕ
last = codes "{\"end\":1}"

-- one directory
one_path : read_image (lines (header ∷ dir_a ∷ last ∷ [])) ≡ Ok (with_row root_alone (codes "a" ∷ []) Dir, 5)
unfolding read_image all_from rows_from pieces_of object_of value_of_line number_under text_under flag_under array_under path_under block_of gathered blocks_at numbers_at replication_value file_in form_by_kind form_in row_of_line header_profile fields_in digits is_utf8 chars encode value punctuate lex content word after_number json_number scan_numeral
one_path = refl

no_text : read_image [] ≡ Err Truncated
unfolding read_image all_from pieces_of
no_text = refl

-- torn in the header, after it, and in the last line: a torn line is not read as JSON
torn : map read_image (header ∷ lines (header ∷ []) ∷ (lines (header ∷ dir_a ∷ []) ++ last) ∷ []) ≡ Err Truncated ∷ Err Truncated ∷ Err Truncated ∷ []
unfolding read_image all_from rows_from pieces_of object_of value_of_line number_under text_under flag_under array_under path_under block_of gathered blocks_at numbers_at replication_value file_in form_by_kind form_in row_of_line header_profile fields_in digits is_utf8 chars encode value punctuate lex content word after_number json_number scan_numeral
torn = refl

-- a directory twice, a line that is no object, another count, a line after the last, and another version
faults : map read_image (lines (header ∷ dir_a ∷ dir_a ∷ last ∷ []) ∷ lines (header ∷ codes "x" ∷ last ∷ []) ∷ lines (header ∷ last ∷ [])
    ∷ lines (header ∷ dir_a ∷ last ∷ last ∷ []) ∷ lines (codes "{\"version\":3}" ∷ []) ∷ lines (codes "{}" ∷ []) ∷ [])
    ≡ Err (WrongOrder 3) ∷ Err (BadLine 2) ∷ Err CountMismatch ∷ Err (BadLine 4) ∷ Err BadVersion ∷ Err NotHeader ∷ []
unfolding read_image all_from rows_from pieces_of object_of value_of_line number_under text_under flag_under array_under path_under block_of gathered blocks_at numbers_at replication_value file_in form_by_kind form_in row_of_line header_profile fields_in digits is_utf8 chars encode value punctuate lex content word after_number json_number scan_numeral
faults = refl

numbers : map fault_number (NotHeader ∷ BadLine 2 ∷ WrongOrder 3 ∷ CountMismatch ∷ Truncated ∷ BadVersion ∷ []) ≡ 61 ∷ 62 ∷ 63 ∷ 64 ∷ 65 ∷ 66 ∷ []
numbers = refl

-- ---- Images.

-- the root alone
root : IsImage (lines (header ∷ codes "{\"end\":0}" ∷ [])) root_alone 5
unfolding object_of value_of_line number_under text_under flag_under array_under path_under block_of gathered blocks_at numbers_at replication_value file_in form_by_kind form_in row_of_line header_profile fields_in digits is_utf8 chars encode value punctuate lex content word after_number json_number scan_numeral
root = record {
  head = header;
  lines = [];
  last = codes "{\"end\":0}";
  spelled = refl;
  plain = refl;
  header = refl;
  rows = tt;
  counted = record { value = _; object = refl; member = _; has_end = refl; gives = refl };
  well_formed = root_alone_is_well_formed;
}

-- there is a header, and a last line
not_of_no_text : (n : Namespace) (txid : ℕ) → IsImage [] n txid → ⊥
not_of_no_text n txid h = some h.head h.lines h.last h.spelled
  where
    some : (head : List ℕ) (each : List (List ℕ)) (last : List ℕ) → [] ≡ lines (head ∷ (each ++ last ∷ [])) → ⊥
    some [] each last e = cc
    some (b ∷ bs) each last e = cc
