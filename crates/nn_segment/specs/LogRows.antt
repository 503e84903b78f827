-- Logs of segments, walked through.
use Rattle.std.specs.Prelude.{◌≡◌, ℕ, List, [], ◌∷◌, Ok, Err, refl}
use Rattle.nn_types.specs.declared.profile.Profile.TheVariants.{One}
use Rattle.nn_types.specs.declared.edit.Edit.{Edit}
use Rattle.nn_types.specs.declared.edit.Edit.TheVariants.{StartSegment, EndSegment, Delete}
use Rattle.nn_types.specs.declared.tx.Tx.{Tx}
use Rattle.nn_types.specs.declared.edit_fault.EditFault.TheVariants.{IsRoot}
use Rattle.nn_model.specs.Namespace.{root_alone}
use Rattle.nn_segment.specs.Segment.{Segment}
use Rattle.nn_segment.specs.Source.{given, end}
use Rattle.nn_segment.specs.declared.fault.SourceFault.TheVariants.{SourceFailed}
use Rattle.nn_segment.specs.LogEnd.{refused, disorder, stop_number, end_of_txs, end_of_log, end_behind, given_in}

abbrev tx : ℕ → Edit → Tx
tx txid edit = record { txid = txid; edit = edit }

abbrev segment : List Tx → Segment
segment txs = record { name = []; bytes = []; txs = txs }

abbrev marks : ℕ → ℕ → Segment
marks first last = segment (tx first (StartSegment One) ∷ tx last EndSegment ∷ [])

overlap : end_of_log 0 root_alone (segment (tx 1 (StartSegment One) ∷ tx 2 EndSegment ∷ []) ∷ segment (tx 2 (StartSegment One) ∷ tx 3 EndSegment ∷ []) ∷ []) ≡ Ok (record { last = 3; namespace = root_alone })
unfolding end_of_log end_of_txs
overlap = refl

old_passed_over : end_of_log 2 root_alone (segment (tx 1 (Delete []) ∷ tx 2 (Delete []) ∷ []) ∷ []) ≡ Ok (record { last = 2; namespace = root_alone })
unfolding end_of_log end_of_txs
old_passed_over = refl

too_high : end_of_log 2 root_alone (marks 4 5 ∷ []) ≡ Err (record { cause = disorder; txid = 3 })
unfolding end_of_log end_of_txs
too_high = refl

-- what comes before a gap is applied first
refused_before_the_gap : end_of_log 2 root_alone (segment (tx 3 (Delete []) ∷ []) ∷ marks 9 10 ∷ []) ≡ Err (record { cause = refused IsRoot; txid = 3 })
unfolding end_of_log end_of_txs
refused_before_the_gap = refl

-- what is in hand comes before the segments that are given later
in_hand_first : end_behind 2 root_alone (tx 3 EndSegment ∷ []) (marks 4 5 ∷ []) ≡ Ok (record { last = 5; namespace = root_alone })
unfolding end_of_log end_of_txs
in_hand_first = refl

gap_behind_what_is_in_hand : end_behind 2 root_alone (tx 3 EndSegment ∷ []) (marks 5 6 ∷ []) ≡ Err (record { cause = disorder; txid = 4 })
unfolding end_of_log end_of_txs
gap_behind_what_is_in_hand = refl

-- neither a fault nor an end takes a segment away
segments_of_answers : given_in (given (marks 1 2) ∷ Err SourceFailed ∷ end ∷ given (marks 3 4) ∷ []) ≡ marks 1 2 ∷ marks 3 4 ∷ []
segments_of_answers = refl

numbers_of_stops : (stop_number disorder ≡ 57) × (stop_number (refused IsRoot) ≡ 25)
numbers_of_stops = (refl, refl)
