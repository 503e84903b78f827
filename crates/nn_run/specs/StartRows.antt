-- Inputs that begin with an image or not: where a run over them begins, their scenarios, and what is printed.
use Rattle.std.specs.Prelude.{◌≡◌, ℕ, true, false, List, [], ◌∷◌, ◌++◌, get_or, flat_map, map, Ok, Err, codes, refl}
use Rattle.std.proofs.Common.{ap, sym, ◌∙◌, arith}
use Rattle.std.specs.Fmt.{digits}
use Rattle.std.specs.Str.{is_utf8, chars}
use Rattle.std.specs.Float.Numeral.{scan_numeral}
use lib.Utf8.{encode}
use Rattle.json.specs.Json.{value}
use Rattle.json.specs.Lex.{punctuate, lex}
use Rattle.json.specs.Text.{content}
use Rattle.json.specs.Word.{word, after_number}
use Rattle.serde_json.specs.Read.{number_of as json_number}
use Rattle.nn_model.specs.declared.form.Form.TheVariants.{Dir}
use Rattle.nn_model.specs.Namespace.{root_alone, with_row}
use Rattle.nn_image.specs.declared.fault.ImageFault.TheVariants.{NotHeader, BadLine, WrongOrder, CountMismatch, Truncated, BadVersion, ReadFault, OutOfMemory}
use Rattle.nn_image.specs.Reading.{is_end_line, read_image, all_from, rows_from, pieces_of, object_of, value_of_line, number_under, text_under, flag_under, array_under, path_under, block_of, gathered, blocks_at, numbers_at, replication_value, file_in, form_by_kind, form_in, row_of_line, header_profile, fields_in}
use Rattle.json.specs.Print.{escape_byte}
use Rattle.nn_bytes.specs.Lines.{line_feed}
use Rattle.nn_listing.specs.Tables.{datanodes}
use Rattle.nn_model.specs.History.{History}
use Rattle.nn_segment.specs.LogEnd.{end_of_log, end_of_txs}
use Rattle.nn_scenario.specs.Cut.{segments_from, parts_from}
use Rattle.nn_image.specs.Front.{divided}
use Rattle.nn_edits.specs.Reading.{edit_of_line, either_of_line, object_in, value_of as line_value, either_in, tx_in, op_in, op_of, txid_in, whole_in, number_in as line_number, path_in as line_path, profile_in as line_profile, edit_in, block_in, items_in, blocks_in, report_in, dn_in, kind_in, kind_of}
use Rattle.nn_edits.specs.declared.fault.LineFault.TheVariants.{MissingField}
use Rattle.nn_scenario.specs.Scenario.{Scenario, scenario_of, lines_from}
use Rattle.nn_types.specs.declared.event.Event.TheVariants.{Applied}
use Rattle.nn_run.specs.declared.engine.Options.{Options}
use Rattle.nn_run.specs.Output.{Printed, output_of, with_history, AreEventsOf, image_fault, IsPrinted}
use Rattle.nn_run.specs.Start.{from_root, start_in, scenario_in}

-- lines, each with its line feed
abbrev lines : List (List ℕ) → List ℕ
lines each = flat_map (λ l. l ++ line_feed ∷ []) each

-- a listing, beside which nothing is told; and a fault line, with the line that goes to standard error
abbrev listed : List (List ℕ) → Printed
listed each = record { text = lines each; status = 0; error = [] }

abbrev faulted : List ℕ → List ℕ → Printed
faulted line error = record { text = lines (line ∷ []); status = 1; error = lines (error ∷ []) }

abbrev header : List ℕ
header = codes "{\"awaiting\":[],\"image\":\"hdfs-standby\",\"last_block\":1073741824,\"last_gen\":1000,\"profile\":1,\"txid\":5,\"version\":2}"

abbrev directory : List ℕ
directory = codes "{\"path\":\"/a\",\"type\":\"dir\"}"

-- an image with one directory, and a line after it
abbrev input : List ℕ
input = lines (header ∷ directory ∷ codes "{\"end\":1}" ∷ codes "x" ∷ [])

-- ---- Where a run begins.

-- with the root alone, where no image is asked for
not_asked_for : (start_in false input ≡ Ok from_root) × (scenario_in false input ≡ input)
not_asked_for = (refl, refl)

-- with the image, and the scenario is what follows it
asked_for : start_in true input ≡ Ok (record { namespace = with_row root_alone (codes "a" ∷ []) Dir; txid = 5 })
unfolding divided is_end_line read_image all_from rows_from pieces_of object_of value_of_line number_under text_under flag_under array_under path_under block_of gathered blocks_at numbers_at replication_value file_in form_by_kind form_in row_of_line header_profile fields_in digits is_utf8 chars encode value punctuate lex content word after_number json_number scan_numeral
asked_for = refl

follows_it : scenario_in true input ≡ lines (codes "x" ∷ [])
unfolding divided is_end_line object_of value_of_line is_utf8 chars encode value punctuate lex content word after_number json_number scan_numeral
follows_it = refl

-- no image, and images with faults
faults : map (start_in true) ([] ∷ lines (codes "x" ∷ []) ∷ lines (header ∷ directory ∷ []) ∷ lines (header ∷ codes "{\"end\":1}" ∷ []) ∷ [])
    ≡ Err NotHeader ∷ Err NotHeader ∷ Err Truncated ∷ Err CountMismatch ∷ []
unfolding divided is_end_line read_image all_from rows_from pieces_of object_of value_of_line number_under text_under flag_under array_under path_under block_of gathered blocks_at numbers_at replication_value file_in form_by_kind form_in row_of_line header_profile fields_in digits is_utf8 chars encode value punctuate lex content word after_number json_number scan_numeral
faults = refl

nothing_follows : map (scenario_in true) ([] ∷ lines (codes "x" ∷ []) ∷ []) ≡ [] ∷ [] ∷ []
unfolding divided
nothing_follows = refl

-- ---- The line of an image's fault.

image_faults : map image_fault (NotHeader ∷ BadLine 2 ∷ WrongOrder 3 ∷ CountMismatch ∷ Truncated ∷ BadVersion ∷ ReadFault ∷ OutOfMemory ∷ [])
    ≡ faulted (codes "fault 61 image") (codes "error: image: the first line is no header (fault 61; --explain 61 says more)")
    ∷ faulted (codes "fault 62 image line 2") (codes "error: image line 2: the line is bad (fault 62; --explain 62 says more)")
    ∷ faulted (codes "fault 63 image line 3") (codes "error: image line 3: the line is out of order (fault 63; --explain 63 says more)")
    ∷ faulted (codes "fault 64 image") (codes "error: image: the number of paths is wrong (fault 64; --explain 64 says more)")
    ∷ faulted (codes "fault 65 image") (codes "error: image: the image ends too early (fault 65; --explain 65 says more)")
    ∷ faulted (codes "fault 66 image") (codes "error: image: the version is unknown (fault 66; --explain 66 says more)")
    ∷ faulted (codes "fault 67 image") (codes "error: image: a read failed (fault 67; --explain 67 says more)")
    ∷ faulted (codes "fault 55 image") (codes "error: image: out of memory (fault 55; --explain 55 says more)") ∷ []
unfolding digits
image_faults = refl

-- ---- What is printed.

abbrev goes_on : Options
goes_on = record { settings = record { permille = 999; min = 1 }; history = false; summary = false; unsafe_blocks = false; image = false; from_image = true; leave_memory = false }

abbrev usual : Options
usual = record goes_on { from_image = false }

-- the history comes first where it is asked for, and with no fault
histories : (with_history true (Applied 1 ∷ []) (listed (codes "x" ∷ [])) ≡ listed (codes "applied 1" ∷ codes "x" ∷ []))
    × (with_history true (Applied 1 ∷ []) (faulted (codes "x") (codes "y")) ≡ faulted (codes "x") (codes "y"))
    × (with_history false (Applied 1 ∷ []) (listed (codes "x" ∷ [])) ≡ listed (codes "x" ∷ []))
unfolding digits
histories = (refl, refl, refl)

abbrev no_header : Printed
no_header = faulted (codes "fault 61 image") (codes "error: image: the first line is no header (fault 61; --explain 61 says more)")

-- the fault of an image is printed alone
no_image : IsPrinted false goes_on (codes "x") no_header
unfolding divided digits
no_image = refl

no_other_text : IsPrinted false goes_on (codes "x") (listed []) → ⊥
unfolding divided digits
no_other_text h = let same : 0 ≡ 1 = ap (λ p. p.status) h in omega (arith, same)

-- where no image is asked for, the first line is one of the scenario
abbrev no_path : List ℕ
no_path = codes "{\"op\":\"OP_MKDIR\",\"txid\":2}"

is_bad : scenario_of no_path ≡ Err (record { fault = MissingField; line = 1 })
unfolding scenario_of lines_from edit_of_line either_of_line either_in report_in dn_in kind_in kind_of object_in line_value tx_in op_in op_of txid_in whole_in line_number line_path line_profile edit_in blocks_in items_in block_in is_utf8 chars encode value punctuate lex content word after_number json_number scan_numeral
is_bad = refl

abbrev lacks_key : Printed
lacks_key = faulted (codes "fault 2 line 1") (codes "error: line 1: a key is missing (fault 2; --explain 2 says more)")

abbrev has_no_number : Printed
has_no_number = faulted (codes "fault 3 line 1") (codes "error: line 1: not a whole number in range (fault 3; --explain 3 says more)")

is_told : output_of from_root usual no_path ≡ lacks_key
unfolding output_of scenario_of lines_from edit_of_line either_of_line either_in report_in dn_in kind_in kind_of object_in line_value tx_in op_in op_of txid_in whole_in line_number line_path line_profile edit_in blocks_in items_in block_in digits is_utf8 chars encode value punctuate lex content word after_number json_number scan_numeral
is_told = refl

a_bad_line : IsPrinted false usual no_path lacks_key
a_bad_line = record { events = []; happened = λ scenario e. absurd (cc (is_bad, e)); is = sym (ap (with_history false []) is_told) }

another_text : IsPrinted false usual no_path has_no_number → ⊥
another_text h =
    let same : has_no_number ≡ lacks_key = h.is ∙ ap (with_history false h.events) is_told in
    let digit : 51 ≡ 50 = ap (λ p. get_or p.text 6 0) same in
    omega (arith, digit)

-- ---- The history.

abbrev no_lines : Scenario
no_lines = record { parts = []; steps = []; datanodes = 1 }

abbrev the_root : List (List ℕ)
the_root = codes "txid 0" ∷ codes "dir \"/\"" ∷ codes "blocks 0 safe 0 needed 0 mode off" ∷ []

the_root_is_told : output_of from_root (record usual { history = true }) [] ≡ listed the_root
unfolding output_of scenario_of lines_from segments_from parts_from end_of_log end_of_txs digits escape_byte datanodes
the_root_is_told = refl

-- where the input has no line, nothing happened
none_happened : (events : History) → ((scenario : Scenario) → scenario_of [] ≡ Ok scenario → AreEventsOf from_root false scenario.steps (segments_from 1 scenario.parts) events) → events ≡ []
unfolding scenario_of lines_from segments_from parts_from end_of_log end_of_txs
none_happened events happened = (happened no_lines refl [] (record { last = 0; namespace = root_alone }) refl refl).one_thread refl

not_what_did_not_happen : IsPrinted false (record usual { history = true }) [] (listed (codes "applied 1" ∷ the_root)) → ⊥
unfolding digits
not_what_did_not_happen h =
    let same : listed (codes "applied 1" ∷ the_root) ≡ listed the_root = h.is ∙ (λ i. with_history true (none_happened h.events h.happened i) (the_root_is_told i)) in
    let letter : 97 ≡ 116 = ap (λ p. get_or p.text 0 0) same in
    omega (arith, letter)
