-- An image of version 1 that was rewritten, or that was read and then not written whole.
use Rattle.std.specs.Prelude.{◌≡◌, ℕ, ◌+◌, ◌^◌, true, false, List, [], ◌∷◌, ◌++◌, length, drop, get_or, Some, None, Ok, Err, codes, refl}
use Rattle.std.proofs.Common.{sym, ap, ◌∙◌, true≢false, arith}
use Rattle.std.specs.Fmt.{digits}
use Rattle.std.specs.Str.{is_utf8, chars}
use Rattle.std.specs.Float.Numeral.{scan_numeral}
use lib.Utf8.{encode}
use Rattle.json.specs.Json.{value}
use Rattle.json.specs.Lex.{punctuate, lex}
use Rattle.json.specs.Print.{escape_byte}
use Rattle.json.specs.Text.{content}
use Rattle.json.specs.Word.{word, after_number}
use Rattle.serde_json.specs.Read.{number_of as json_number}
use Rattle.nn_device.specs.Device.{Reader, Writer}
use Rattle.nn_model.proofs.Equals.{root_alone_is_well_formed}
use Rattle.nn_model.specs.declared.form.Form.TheVariants.{Dir, File}
use Rattle.nn_model.specs.Namespace.{Namespace, lookup, root_alone, with_row}
use Rattle.nn_image.specs.declared.fault.ImageFault.TheVariants.{NotHeader, Truncated}
use Rattle.nn_image.specs.declared.fault.SaveFault.TheVariants.{WriteFault}
use Rattle.nn_image.specs.declared.fault.SaveFault.TheVariants as save
use Rattle.nn_image.specs.declared.fault.RewriteFault.TheVariants.{Load, Save}
use Rattle.nn_image.specs.Text.{image_text, head_data, form_data, end_data}
use Rattle.nn_image.specs.OldText.{old_image_text, old_header_data}
use Rattle.nn_image.specs.Reading.{read_image, all_from, rows_from, pieces_of, object_of, value_of_line, number_under, text_under, flag_under, array_under, path_under, block_of, gathered, blocks_at, numbers_at, replication_value, file_in, form_by_kind, form_in, row_of_line, header_profile, fields_in}
use Rattle.nn_image.specs.Rewriting.{Rewrote, StoppedWriting, IfLoad, IfSave}
use Rattle.nn_image.specs.TextRows.{lines, header}

-- ---- The texts.

abbrev old_header : List ℕ
old_header = codes "{\"awaiting\":[],\"image\":\"hdfs-standby\",\"last_block\":1073741824,\"last_gen\":1000,\"txid\":5,\"version\":1}"

-- a directory, and an empty file in it
abbrev two_paths : Namespace
two_paths = with_row (with_row root_alone (codes "a" ∷ []) Dir) (codes "a" ∷ codes "b" ∷ []) (File (record { replication = 3; closed = false; blocks = [] }))

abbrev path_lines : List (List ℕ)
path_lines =
    codes "{\"path\":\"/a\",\"type\":\"dir\"}" ∷ codes "{\"blocks\":[],\"closed\":false,\"path\":\"/a/b\",\"replication\":3,\"type\":\"file\"}" ∷ codes "{\"end\":2}" ∷ []

-- the versions differ in their headers alone
of_two_paths : (old_image_text two_paths 5 ≡ lines (old_header ∷ path_lines)) × (image_text two_paths 5 ≡ lines (header ∷ path_lines))
unfolding old_image_text old_header_data image_text head_data form_data end_data digits escape_byte
of_two_paths = (refl, refl)

abbrev old_image : List ℕ
old_image = lines (old_header ∷ codes "{\"end\":0}" ∷ [])

abbrev image : List ℕ
image = lines (header ∷ codes "{\"end\":0}" ∷ [])

of_the_root : image_text root_alone 5 ≡ image
unfolding image_text head_data form_data end_data digits escape_byte
of_the_root = refl

old_is_read : read_image old_image ≡ Ok (root_alone, 5)
unfolding read_image all_from rows_from pieces_of object_of value_of_line number_under text_under flag_under array_under path_under block_of gathered blocks_at numbers_at replication_value file_in form_by_kind form_in row_of_line header_profile fields_in digits is_utf8 chars encode value punctuate lex content word after_number json_number scan_numeral
old_is_read = refl

new_is_read : read_image image ≡ Ok (root_alone, 5)
unfolding read_image all_from rows_from pieces_of object_of value_of_line number_under text_under flag_under array_under path_under block_of gathered blocks_at numbers_at replication_value file_in form_by_kind form_in row_of_line header_profile fields_in digits is_utf8 chars encode value punctuate lex content word after_number json_number scan_numeral
new_is_read = refl

no_image : read_image (codes "x") ≡ Err Truncated
unfolding read_image all_from pieces_of
no_image = refl

no_text : read_image [] ≡ Err Truncated
unfolding read_image all_from pieces_of
no_text = refl

-- a txid of 2^63 is written, and not read
abbrev image_at_limit : List ℕ
image_at_limit = lines (codes "{\"awaiting\":[],\"image\":\"hdfs-standby\",\"last_block\":1073741824,\"last_gen\":1000,\"profile\":1,\"txid\":9223372036854775808,\"version\":2}" ∷ codes "{\"end\":0}" ∷ [])

of_the_limit : image_text root_alone (2 ^ 63) ≡ image_at_limit
unfolding image_text head_data form_data end_data digits escape_byte
of_the_limit = refl

limit_is_not_read : read_image image_at_limit ≡ Err NotHeader
unfolding read_image all_from rows_from pieces_of object_of value_of_line number_under text_under flag_under array_under path_under block_of gathered blocks_at numbers_at replication_value file_in form_by_kind form_in row_of_line header_profile fields_in digits is_utf8 chars encode value punctuate lex content word after_number json_number scan_numeral
limit_is_not_read = refl

-- ---- Rewritten whole.

abbrev unread : Reader
unread = record { left = Some old_image; reads = 0; given = 0; failed = false; refused = false }

abbrev all_read : Reader
all_read = record { left = Some []; reads = 1; given = 112; failed = false; refused = false }

abbrev failed_reader : Reader
failed_reader = record all_read { failed = true }

-- readers whose bytes are not known
abbrev unknown : Reader
unknown = record unread { left = None }

abbrev unwritten : Writer
unwritten = record { contents = Some []; taken = 7; failed = false }

-- a writer that took this text
abbrev holding : List ℕ → Writer
holding text = record { contents = Some text; taken = 7 + length text; failed = false }

abbrev written : Writer
written = holding image

-- the old image is read to its end
old_ends : (text : List ℕ) → Some old_image ≡ Some text → (read_image text ≡ Ok (root_alone, 5)) × (◌≡◌ {A = List ℕ} [] [])
old_ends text e = (cc (old_is_read, e), refl)

-- as the root alone, and as nothing else
is_the_root : (n : Namespace) (txid : ℕ) → read_image old_image ≡ Ok (n, txid) → (n ≡ root_alone) × (txid ≡ 5)
is_the_root n txid read =
    let both : ◌≡◌ {A = Namespace × ℕ} (n, txid) (root_alone, 5) = cc (old_is_read, read) in
    (ap (λ x. x.0) both, ap (λ x. x.1) both)

rewritten : Rewrote unread all_read unwritten written 5
rewritten = record {
  namespace = root_alone;
  well_formed = root_alone_is_well_formed;
  read = old_ends;
  unfailed = refl;
  wrote = record { bytes = sym of_the_root; counted = ap (λ text. 7 + length text) (sym of_the_root); unfailed = refl };
  again = ap read_image of_the_root ∙ new_is_read;
}

-- an image is read, and no other text
no_image_rewritten : Rewrote (record unread { left = Some (codes "x") }) all_read unwritten written 5 → ⊥
no_image_rewritten h = let read = (h.read (codes "x") refl).0 in cc (read, no_image)

-- the whole text is read
not_to_its_end : Rewrote unread unread unwritten written 5 → ⊥
not_to_its_end h = let end : old_image ≡ [] = (h.read old_image refl).1 in cc

-- no read failed
a_read_failed : Rewrote unread failed_reader unwritten written 5 → ⊥
a_read_failed h = true≢false h.unfailed

-- the txid is that of the image
another_txid : Rewrote unread all_read unwritten written 6 → ⊥
another_txid h = let same : 6 ≡ 5 = (is_the_root h.namespace 6 (h.read old_image refl).0).1 in omega (arith, same)

-- the image of the namespace that was read is written, and no other
another_image : Rewrote unread all_read unwritten (holding (lines (header ∷ path_lines))) 5 → ⊥
another_image h =
    let same = (is_the_root h.namespace 5 (h.read old_image refl).0).0 in
    let text : lines (header ∷ path_lines) ≡ image = h.wrote.bytes ∙ ap (λ n. image_text n 5) same ∙ of_the_root in
    let size : ◌≡◌ {A = ℕ} (length (lines (header ∷ path_lines))) (length image) = ap length text in
    omega (arith, size)

nothing_written : Rewrote unread all_read unwritten unwritten 5 → ⊥
nothing_written h = cc (no_text, h.again, h.wrote.bytes)

-- what is written is read again: this text is an image's, and its txid is too great
not_read_again : Rewrote unknown unknown unwritten (holding image_at_limit) (2 ^ 63) → ⊥
not_read_again h = cc (limit_is_not_read, h.again, h.wrote.bytes)

-- and it is a namespace with a root, whatever the reader had
no_root : (h : Rewrote unknown unknown unwritten written 5) → h.namespace.rows ≡ [] → ⊥
no_root h none = let found : lookup h.namespace [] ≡ None = ap (λ rows. lookup (record root_alone { rows = rows }) []) none in cc (h.well_formed.root, found)

-- ---- Read, and not written whole.

-- two bytes were written, and then a write failed
abbrev failed_after_two : Writer
failed_after_two = record { contents = Some (codes "{\""); taken = 9; failed = true }

stopped : StoppedWriting unread all_read unwritten failed_after_two (WriteFault 2)
stopped = record {
  namespace = root_alone;
  txid = 5;
  well_formed = root_alone_is_well_formed;
  read = old_ends;
  unfailed = refl;
  prefix = record {
    took = record { prefix = codes "{\""; rest = drop 2 image; whole = of_the_root; short = omega arith; bytes = refl; counted = refl; caused = refl };
    told = refl;
  };
}

-- the whole text is read before any byte is written
stopped_no_image : StoppedWriting (record unread { left = Some (codes "x") }) all_read unwritten failed_after_two (WriteFault 2) → ⊥
stopped_no_image h = let read = (h.read (codes "x") refl).0 in cc (read, no_image)

stopped_before_the_end : StoppedWriting unread unread unwritten failed_after_two (WriteFault 2) → ⊥
stopped_before_the_end h = let end : old_image ≡ [] = (h.read old_image refl).1 in cc

stopped_by_a_read : StoppedWriting unread failed_reader unwritten failed_after_two (WriteFault 2) → ⊥
stopped_by_a_read h = true≢false h.unfailed

-- the bytes that were written are told
three_told : StoppedWriting unread all_read unwritten failed_after_two (WriteFault 3) → ⊥
three_told h = omega (arith, h.prefix.told, h.prefix.took.counted)

-- and they are the first ones of the image of the namespace that was read
no_prefix : StoppedWriting unread all_read unwritten (record failed_after_two { contents = Some (codes "[]") }) (WriteFault 2) → ⊥
no_prefix h =
    let same = is_the_root h.namespace h.txid (h.read old_image refl).0 in
    let its : image_text root_alone 5 ≡ image_text h.namespace h.txid = cc (same.0, same.1) in
    let text : image ≡ codes "[]" ++ h.prefix.took.rest =
    sym of_the_root ∙ its ∙ h.prefix.took.whole ∙ ap (λ t. t ++ h.prefix.took.rest) (sym h.prefix.took.bytes) in
    let first : 123 ≡ 91 = ap (λ t. get_or t 0 0) text in
    omega (arith, first)

-- a namespace with a root was read, whatever the reader had
stopped_at_no_root : (h : StoppedWriting unknown unknown unwritten failed_after_two (WriteFault 2)) → h.namespace.rows ≡ [] → ⊥
stopped_at_no_root h none = let found : lookup h.namespace [] ≡ None = ap (λ rows. lookup (record root_alone { rows = rows }) []) none in cc (h.well_formed.root, found)

-- ---- Faults of the loading, and of the saving.

of_the_loading : IfLoad (λ e. e ≡ Truncated) (Load Truncated) × IfLoad (λ e. ⊥) (Save (WriteFault 2))
of_the_loading = (refl, tt)

not_of_the_loading : IfLoad (λ e. e ≡ Truncated) (Load NotHeader) → ⊥
not_of_the_loading h = cc

of_the_saving : IfSave (λ e. e ≡ WriteFault 2) (Save (WriteFault 2)) × IfSave (λ e. ⊥) (Load Truncated)
of_the_saving = (refl, tt)

not_of_the_saving : IfSave (λ e. e ≡ WriteFault 2) (Save save.OutOfMemory) → ⊥
not_of_the_saving h = cc
