-- What a run says on standard error, byte for byte.
use Rattle.std.specs.Prelude.{◌≡◌, ℕ, List, [], ◌∷◌, ◌++◌, Some, None, map, codes, refl}
use Rattle.std.specs.Fmt.{digits}
use Rattle.nn_bytes.specs.Lines.{line_feed}
use Rattle.nn_types.specs.declared.edit_fault.EditFault.TheVariants.{Exists, LowerProfile}
use Rattle.nn_input.specs.declared.fault.InputFault.TheVariants.{ReadFailed, TooLong, OutOfMemory}
use Rattle.nn_image.specs.declared.fault.ImageFault.TheVariants.{Truncated, WrongOrder}
use Rattle.nn_edits.specs.declared.fault.LineFault.TheVariants.{NotJson}
use Rattle.nn_segment.specs.declared.fault.SegmentFault.TheVariants.{TornLine, BadLine, Gap, WrongProfile, NoEnd}
use Rattle.nn_run.specs.Errors.{error_line, segment_words}
use Rattle.nn_run.specs.Run.{error_of, failed}
use Rattle.nn_run.specs.declared.failure.RunFailure.TheVariants.{Unread, Image, Line, Segment, Log}
use Rattle.nn_run.specs.declared.follower.LogFault.TheVariants.{Refused, Disorder}

abbrev line_of : List ℕ → List ℕ
line_of text = text ++ line_feed ∷ []

at_a_place : error_line (codes " segment 1:") (codes "transaction 3 is missing") (codes "14")
    ≡ line_of (codes "error: segment 1: transaction 3 is missing (fault 14; --explain 14 says more)")
at_a_place = refl

of_the_whole : error_line [] (codes "out of memory") (codes "55") ≡ line_of (codes "error: out of memory (fault 55; --explain 55 says more)")
of_the_whole = refl

-- a number of the fault's own stands among its words
with_a_number : map segment_words (Gap 3 ∷ TornLine 4 ∷ BadLine 5 NotJson ∷ WrongProfile 6 ∷ NoEnd ∷ [])
    ≡ codes "transaction 3 is missing" ∷ codes "line 4 has no line feed" ∷ codes "line 5 is no transaction: not a JSON object"
    ∷ codes "line 6 is an append, in a segment of profile 1" ∷ codes "no end mark, or a mark inside" ∷ []
unfolding digits
with_a_number = refl

each_form : map (λ f. error_of (Some f)) (Unread ReadFailed ∷ Unread TooLong ∷ Unread OutOfMemory ∷ Image Truncated ∷ Image (WrongOrder 3) ∷ Line NotJson 7
    ∷ Segment (Gap 3) 1 ∷ Log (Refused Exists 9) ∷ Log (Refused LowerProfile 10) ∷ Log (Disorder 12) ∷ [])
    ≡ map line_of (codes "error: the input could not be read (fault 8; --explain 8 says more)"
    ∷ codes "error: the input is too long (fault 8; --explain 8 says more)"
    ∷ codes "error: out of memory (fault 55; --explain 55 says more)"
    ∷ codes "error: image: the image ends too early (fault 65; --explain 65 says more)"
    ∷ codes "error: image line 3: the line is out of order (fault 63; --explain 63 says more)"
    ∷ codes "error: line 7: not a JSON object (fault 1; --explain 1 says more)"
    ∷ codes "error: segment 1: transaction 3 is missing (fault 14; --explain 14 says more)"
    ∷ codes "error: txid 9: the path exists (fault 21; --explain 21 says more)"
    ∷ codes "error: txid 10: the profile is lower than that of an earlier segment (fault 33; --explain 33 says more)"
    ∷ codes "error: txid 12: the transaction is missing (fault 57; --explain 57 says more)" ∷ [])
unfolding digits
each_form = refl

-- where nothing ended a run, nothing is said
nothing_said : error_of None ≡ []
nothing_said = refl

-- the line on the output has the same place and number
each_text : map (λ f. (failed f).text) (Unread ReadFailed ∷ Unread TooLong ∷ Unread OutOfMemory ∷ Image Truncated ∷ Image (WrongOrder 3) ∷ Line NotJson 7
    ∷ Segment (Gap 3) 1 ∷ Log (Refused Exists 9) ∷ Log (Disorder 12) ∷ [])
    ≡ map line_of (codes "fault 8" ∷ codes "fault 8" ∷ codes "fault 55" ∷ codes "fault 65 image" ∷ codes "fault 63 image line 3" ∷ codes "fault 1 line 7"
    ∷ codes "fault 14 segment 1" ∷ codes "fault 21 txid 9" ∷ codes "fault 57 txid 12" ∷ [])
unfolding digits
each_text = refl
