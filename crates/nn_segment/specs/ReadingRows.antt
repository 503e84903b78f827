-- Segments and their faults, computed.
use Rattle.std.specs.Prelude.{◌≡◌, ℕ, List, [], ◌∷◌, ◌++◌, map, Option, Some, None, Result, Ok, Err, codes, true, false, refl}
use Rattle.nn_bytes.specs.Lines.{line_feed}
use Rattle.nn_edits.specs.declared.fault.LineFault.{LineFault}
use Rattle.nn_edits.specs.declared.fault.LineFault.TheVariants.{NotJson, MissingField}
use Rattle.nn_types.specs.declared.profile.Profile.TheVariants.{One, Two}
use Rattle.nn_types.specs.declared.edit.Edit.{Edit}
use Rattle.nn_types.specs.declared.edit.Edit.TheVariants.{StartSegment, EndSegment, Mkdir, Append, Delete}
use Rattle.nn_types.specs.declared.tx.Tx.{Tx}
use Rattle.nn_model.specs.Apply.{first_fault}
use Rattle.nn_segment.specs.declared.fault.SegmentFault.{SegmentFault}
use Rattle.nn_segment.specs.declared.fault.SegmentFault.TheVariants.{BadName, NoStart, TornLine, BadLine, Gap, WrongProfile, NoEnd, NameMismatch}
use Rattle.nn_segment.specs.Name.{digits, segment_file_name, txids_of}
use Rattle.nn_segment.specs.Lines.{lines_of, is_ended}
use Rattle.nn_segment.specs.Segment.{start_profile, allows, keeps_profile, ends_once, first_txid, last_txid}
use Rattle.nn_segment.specs.Reading.{lines_checks, bytes_checks, fault_of_segment, read_segment}

-- ---- Lines.

lines : (lines_of (codes "ab" ++ line_feed ∷ codes "c" ++ line_feed ∷ []) ≡ codes "ab" ∷ codes "c" ∷ [])
    × (lines_of (line_feed ∷ line_feed ∷ []) ≡ [] ∷ [] ∷ [])
    × (lines_of (codes "ab" ++ line_feed ∷ codes "c") ≡ codes "ab" ∷ codes "c" ∷ [])
    × (lines_of [] ≡ [])
lines = (refl, refl, refl, refl)

ended : (is_ended (codes "ab" ++ line_feed ∷ []) ≡ true) × (is_ended (line_feed ∷ codes "ab") ≡ false) × (is_ended [] ≡ false)
ended = (refl, refl, refl)

-- ---- Before any line is read.

no_bytes : first_fault (bytes_checks []) ≡ Some NoStart
no_bytes = refl

torn_first_line : first_fault (bytes_checks (codes "{}")) ≡ Some (TornLine 1)
torn_first_line = refl

torn_last_line : first_fault (bytes_checks (codes "{}" ++ line_feed ∷ codes "{}" ++ line_feed ∷ codes "{")) ≡ Some (TornLine 3)
torn_last_line = refl

-- the name comes first
bad_name_and_no_bytes : fault_of_segment (codes "edits") [] ≡ Some BadName
unfolding fault_of_segment txids_of segment_file_name digits
bad_name_and_no_bytes = refl

no_bytes_under_a_name : read_segment (codes "edits_0000000000000000001-0000000000000000003") [] ≡ Err NoStart
unfolding read_segment fault_of_segment txids_of segment_file_name digits
no_bytes_under_a_name = refl

-- ---- Lines as they were read, under the txids of a name.

abbrev tx : ℕ → Edit → Result Tx LineFault
tx txid edit = Ok (record { txid = txid; edit = edit })

abbrev fault_under : ℕ → ℕ → List (Result Tx LineFault) → Option SegmentFault
fault_under f l reads = first_fault (lines_checks (Some (f, l)) reads)

abbrev a : List (List ℕ)
a = codes "a" ∷ []

whole : fault_under 1 3 (tx 1 (StartSegment One) ∷ tx 2 (Mkdir a) ∷ tx 3 EndSegment ∷ []) ≡ None
whole = refl

gap_in_segment : fault_under 1 4 (tx 1 (StartSegment One) ∷ tx 2 (Mkdir a) ∷ tx 4 EndSegment ∷ []) ≡ Some (Gap 3)
gap_in_segment = refl

-- a bad line after a gap is not come to, and a gap after a bad line is not either
gap_before_bad_line : fault_under 1 4 (tx 1 (StartSegment One) ∷ tx 3 (Mkdir a) ∷ Err NotJson ∷ []) ≡ Some (Gap 2)
gap_before_bad_line = refl

bad_line_before_gap : fault_under 1 4 (tx 1 (StartSegment One) ∷ Err MissingField ∷ tx 5 EndSegment ∷ []) ≡ Some (BadLine 2 MissingField)
bad_line_before_gap = refl

-- a first line that is not read is a bad line, and not a missing start mark
bad_first_line : fault_under 1 2 (Err NotJson ∷ tx 2 EndSegment ∷ []) ≡ Some (BadLine 1 NotJson)
bad_first_line = refl

end_mark_alone : fault_under 1 1 (tx 1 EndSegment ∷ []) ≡ Some NoStart
end_mark_alone = refl

start_mark_alone : fault_under 1 1 (tx 1 (StartSegment One) ∷ []) ≡ Some NoEnd
start_mark_alone = refl

no_end_mark : fault_under 1 2 (tx 1 (StartSegment One) ∷ tx 2 (Mkdir a) ∷ []) ≡ Some NoEnd
no_end_mark = refl

mark_inside_a_segment : (fault_under 1 5 (tx 1 (StartSegment One) ∷ tx 2 (Mkdir a) ∷ tx 3 EndSegment ∷ tx 4 (StartSegment One) ∷ tx 5 EndSegment ∷ []) ≡ Some NoEnd)
    × (fault_under 1 3 (tx 1 (StartSegment One) ∷ tx 2 (StartSegment One) ∷ tx 3 EndSegment ∷ []) ≡ Some NoEnd)
mark_inside_a_segment = (refl, refl)

-- where the second segment begins below the first one's end, the gap is found first
two_segments_as_one : fault_under 1 3 (tx 1 (StartSegment One) ∷ tx 2 (Mkdir a) ∷ tx 3 EndSegment ∷ tx 2 (StartSegment One) ∷ tx 3 EndSegment ∷ []) ≡ Some (Gap 4)
two_segments_as_one = refl

-- nothing follows the greatest txid
after_the_greatest_txid : fault_under 9223372036854775807 9223372036854775807 (tx 9223372036854775807 (StartSegment One) ∷ tx 9223372036854775807 EndSegment ∷ []) ≡ Some (Gap 9223372036854775808)
after_the_greatest_txid = refl

wrong_names : (fault_under 2 3 (tx 1 (StartSegment One) ∷ tx 2 (Delete a) ∷ tx 3 EndSegment ∷ []) ≡ Some NameMismatch)
    × (fault_under 1 4 (tx 1 (StartSegment One) ∷ tx 2 (Delete a) ∷ tx 3 EndSegment ∷ []) ≡ Some NameMismatch)
wrong_names = (refl, refl)

-- profile 2 has appends, and profile 1 has none
append_of_profile_two : fault_under 1 3 (tx 1 (StartSegment Two) ∷ tx 2 (Append a) ∷ tx 3 EndSegment ∷ []) ≡ None
append_of_profile_two = refl

append_of_profile_one : fault_under 1 4 (tx 1 (StartSegment One) ∷ tx 2 (Mkdir a) ∷ tx 3 (Append a) ∷ tx 4 EndSegment ∷ []) ≡ Some (WrongProfile 3)
append_of_profile_one = refl

-- on its own line a gap is found first, and a missing start mark
gap_before_wrong_profile : (fault_under 1 3 (tx 1 (StartSegment One) ∷ tx 3 (Append a) ∷ []) ≡ Some (Gap 2)) × (fault_under 1 1 (tx 1 (Append a) ∷ []) ≡ Some NoStart)
gap_before_wrong_profile = (refl, refl)

-- line by line: a bad line before it is found first, and one after it is not come to
wrong_profile_and_bad_line : (fault_under 1 3 (tx 1 (StartSegment One) ∷ Err NotJson ∷ tx 3 (Append a) ∷ []) ≡ Some (BadLine 2 NotJson))
    × (fault_under 1 3 (tx 1 (StartSegment One) ∷ tx 2 (Append a) ∷ Err NotJson ∷ []) ≡ Some (WrongProfile 2))
wrong_profile_and_bad_line = (refl, refl)

-- it comes before the checks of the whole
wrong_profile_before_no_end : fault_under 5 6 (tx 1 (StartSegment One) ∷ tx 2 (Append a) ∷ []) ≡ Some (WrongProfile 2)
wrong_profile_before_no_end = refl

-- ---- Parts of a segment.

txids : (first_txid [] ≡ 0) × (last_txid [] ≡ 0) × (first_txid (record { txid = 7; edit = StartSegment One } ∷ record { txid = 8; edit = EndSegment } ∷ []) ≡ 7)
    × (last_txid (record { txid = 7; edit = StartSegment One } ∷ record { txid = 8; edit = EndSegment } ∷ []) ≡ 8)
txids = (refl, refl, refl, refl)

profiles : (map start_profile (StartSegment One ∷ StartSegment Two ∷ EndSegment ∷ []) ≡ Some One ∷ Some Two ∷ None ∷ [])
    × (map (allows One) (Append a ∷ Delete a ∷ []) ≡ false ∷ true ∷ []) × (map (allows Two) (Append a ∷ Delete a ∷ []) ≡ true ∷ true ∷ [])
profiles = (refl, refl, refl)

-- the transactions after the mark, each of them; the mark is asked for too
profile_kept : (keeps_profile (record { txid = 1; edit = StartSegment Two } ∷ record { txid = 2; edit = Append a } ∷ []) ≡ true)
    × (keeps_profile (record { txid = 1; edit = StartSegment One } ∷ record { txid = 2; edit = Delete a } ∷ []) ≡ true)
    × (keeps_profile (record { txid = 1; edit = StartSegment One } ∷ record { txid = 2; edit = Delete a } ∷ record { txid = 3; edit = Append a } ∷ []) ≡ false)
    × (keeps_profile (record { txid = 1; edit = EndSegment } ∷ []) ≡ false) × (keeps_profile [] ≡ false)
profile_kept = (refl, refl, refl, refl, refl)

ends : (ends_once (record { txid = 8; edit = EndSegment } ∷ []) ≡ true) × (ends_once [] ≡ false)
    × (ends_once (record { txid = 8; edit = EndSegment } ∷ record { txid = 9; edit = EndSegment } ∷ []) ≡ false)
ends = (refl, refl, refl)
