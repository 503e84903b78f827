-- Logs that are checked line by line, computed.
use Rattle.std.specs.Prelude.{◌≡◌, ◌≤◌, ℕ, true, false, List, [], ◌∷◌, map, Option, Some, None, Result, Ok, Err, refl}
use Rattle.std.proofs.Common.{arith, sym, true≢false, lit<, lit≤}
use Rattle.std.proofs.lemmas.List.Elements.{All-nil}
use Rattle.nn_types.specs.declared.edit.Edit.{Edit}
use Rattle.nn_types.specs.declared.edit.Edit.TheVariants.{StartSegment, EndSegment, Mkdir, Append}
use Rattle.nn_types.specs.declared.profile.Profile.TheVariants.{One, Two}
use Rattle.nn_types.specs.declared.tx.Tx.{Tx}
use Rattle.nn_segment.specs.declared.fault.SegmentFault.{SegmentFault}
use Rattle.nn_segment.specs.declared.fault.SegmentFault.TheVariants.{NoStart, Gap, WrongProfile, TooLong, NoEnd}
use Rattle.nn_segment.specs.Segment.{Segment}
use Rattle.nn_scenario.specs.Checking.{SegmentCheck, line_checked, part_fault, HasBegunPart, AreSegments, IsCheckOf}
use Rattle.nn_scenario.specs.Cut.{segments_from}
use Rattle.nn_scenario.specs.Reading.{nothing_read}
use Rattle.nn_scenario.specs.declared.segments.PartFault.{PartFault}

abbrev nothing : SegmentCheck
nothing = record { room = 16777217; lines = 0; profile = None; next = 0; order = None; inside = false; ended = 0; bad = None }

abbrev tx : ℕ → Edit → Tx
tx txid edit = record { txid = txid; edit = edit }

-- a line of 60 bytes with its line feed for each transaction
abbrev checked : SegmentCheck → List Tx → SegmentCheck
checked c [] = c
checked c (t ∷ txs) = checked (line_checked c 60 t) txs

abbrev bad_of : List Tx → Option PartFault
bad_of txs = (checked nothing txs).bad

abbrev bad : ℕ → SegmentFault → Option PartFault
bad segment fault = Some (record { fault = fault; segment = segment })

-- ---- Lines.

two_in_hand : checked nothing (tx 5 (StartSegment Two) ∷ tx 6 (Mkdir []) ∷ []) ≡ record { room = 16777097; lines = 2; profile = Some Two; next = 7; order = None; inside = false; ended = 0; bad = None }
two_in_hand = refl

-- the end mark ends the segment, and the next one begins with all its room
one_ended : checked nothing (tx 5 (StartSegment Two) ∷ tx 6 EndSegment ∷ []) ≡ record { room = 16777217; lines = 0; profile = Some Two; next = 7; order = None; inside = false; ended = 1; bad = None }
one_ended = refl

faults : map bad_of ((tx 1 (Mkdir []) ∷ tx 2 EndSegment ∷ [])
    ∷ (tx 1 (StartSegment One) ∷ tx 3 EndSegment ∷ [])
    ∷ (tx 1 (StartSegment One) ∷ tx 2 (Append []) ∷ tx 3 EndSegment ∷ [])
    ∷ (tx 1 (StartSegment Two) ∷ tx 2 (Append []) ∷ tx 3 EndSegment ∷ [])
    ∷ (tx 1 (StartSegment One) ∷ tx 2 (StartSegment One) ∷ tx 3 EndSegment ∷ []) ∷ [])
    ≡ bad 1 NoStart ∷ bad 1 (Gap 2) ∷ bad 1 (WrongProfile 2) ∷ None ∷ bad 1 NoEnd ∷ []
faults = refl

-- the first fault of a segment is told, and the first segment that has one
first_faults : map bad_of ((tx 1 (StartSegment One) ∷ tx 3 (Append []) ∷ tx 5 EndSegment ∷ [])
    ∷ (tx 1 (StartSegment One) ∷ tx 2 EndSegment ∷ tx 3 (Mkdir []) ∷ tx 4 EndSegment ∷ tx 5 (StartSegment One) ∷ tx 7 EndSegment ∷ []) ∷ [])
    ≡ bad 1 (Gap 2) ∷ bad 2 NoStart ∷ []
first_faults = refl

-- it is too long before all else, and lacks its end mark after all else
ranks : part_fault 0 (Some NoStart) true ∷ part_fault 1 (Some NoStart) false ∷ part_fault 1 None false ∷ part_fault 1 None true ∷ [] ≡ Some TooLong ∷ Some NoStart ∷ Some NoEnd ∷ None ∷ []
ranks = refl

-- 16,777,216 bytes are no fault, and one more is
one_byte_too_long : map (λ bytes. (line_checked nothing bytes (tx 1 EndSegment)).bad) (16777216 ∷ 16777217 ∷ []) ≡ bad 1 NoStart ∷ bad 1 TooLong ∷ []
one_byte_too_long = refl

-- ---- What the check knows.

abbrev begun_at_1 : SegmentCheck
begun_at_1 = record nothing { lines = 1; profile = Some One; next = 2 }

begins : HasBegunPart (tx 1 (StartSegment One)) [] begun_at_1
begins = record { profile = refl; next = refl; order = refl; inside = refl; not_ended = refl; first_in_range = lit< tt; last_in_range = lit≤ tt }

not_in_another_profile : HasBegunPart (tx 1 (StartSegment One)) [] (record begun_at_1 { profile = Some Two }) → ⊥
not_in_another_profile h = let e : Some Two ≡ Some One = h.profile in cc

not_before_another_txid : HasBegunPart (tx 1 (StartSegment One)) [] (record begun_at_1 { next = 3 }) → ⊥
not_before_another_txid h = let e : 3 ≡ 2 = h.next in omega (arith, e)

not_with_a_fault_made_up : HasBegunPart (tx 1 (StartSegment One)) [] (record begun_at_1 { order = Some NoStart }) → ⊥
not_with_a_fault_made_up h = let e : Some NoStart ≡ None = h.order in cc

not_with_a_mark_made_up : HasBegunPart (tx 1 (StartSegment One)) [] (record begun_at_1 { inside = true }) → ⊥
not_with_a_mark_made_up h = true≢false h.inside

not_behind_its_end : (c : SegmentCheck) → HasBegunPart (tx 1 (StartSegment One)) (tx 2 EndSegment ∷ []) c → ⊥
not_behind_its_end c h = true≢false (sym h.not_ended)

of_nothing : IsCheckOf nothing_read nothing
unfolding segments_from
of_nothing = record { read = record { lines = []; unbroken = refl; joined = refl; reads = refl; from_one = All-nil (λ (t : Tx). 1 ≤ t.txid) }; room = refl; lines = refl; in_hand = tt; ended = refl; parts = ([], refl, refl) }

not_with_less_room : IsCheckOf nothing_read (record nothing { room = 16777216 }) → ⊥
not_with_less_room h = let e : 16777216 ≡ 16777217 = h.room in omega (arith, e)

not_of_a_line : IsCheckOf nothing_read (record nothing { lines = 1 }) → ⊥
not_of_a_line h = let e : 1 ≡ 0 = h.lines in omega (arith, e)

not_of_a_segment : IsCheckOf nothing_read (record nothing { ended = 1 }) → ⊥
not_of_a_segment h = let e : 1 ≡ 0 = h.ended in omega (arith, e)

not_bad_without_a_segment : (b : PartFault) → AreSegments [] (Some b) → ⊥
unfolding segments_from
not_bad_without_a_segment b h = no_err b (h [])
  where
    no_err : (b : PartFault) → ◌≡◌ {A = Result (List Segment) PartFault} (Ok []) (Err b) → ⊥
    no_err b e = cc
