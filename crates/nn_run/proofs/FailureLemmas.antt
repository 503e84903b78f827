-- What ended a run, and the two lines that tell it.
use Rattle.std.proofs.Common.{◌≡◌, ◌∷◌, ◌++◌, ◌∙◌, [], refl}
use Rattle.std.specs.Prelude.{codes, decimal}
use Rattle.std.specs.Fmt.{digits}
use Rattle.nn_bytes.specs.Lines.{line_feed}
use Rattle.nn_input.specs.declared.fault.InputFault.TheVariants as input
use Rattle.nn_image.specs.declared.fault.ImageFault.TheVariants as image
use Rattle.nn_run.specs.Errors.{error_line}
use Rattle.nn_run.specs.Following.{stop_of}
use Rattle.nn_run.specs.Output.{log_fault}
use Rattle.nn_run.specs.Pieces.{place_before_words, place_of, failure_words}
use Rattle.nn_run.specs.Run.{failed, number_of}
use Rattle.nn_run.specs.declared.failure.RunFailure.{RunFailure}
use Rattle.nn_run.specs.declared.failure.RunFailure.TheVariants as failure
use Rattle.nn_run.specs.declared.follower.LogFault.{LogFault}
use Rattle.nn_run.specs.declared.follower.LogFault.TheVariants as stop

pub failed_stop : (fault : LogFault) → failed (failure.Log fault) ≡ log_fault (stop_of fault)
failed_stop (stop.Refused fault txid) = refl
failed_stop (stop.Disorder txid) = refl

-- ---- The pieces of the lines.

pub text_is : (f : RunFailure) → codes "fault " ++ decimal (number_of f) ++ place_of f ++ line_feed ∷ [] ≡ (failed f).text
unfolding digits
text_is (failure.Unread input.ReadFailed) = refl
text_is (failure.Unread input.TooLong) = refl
text_is (failure.Unread input.OutOfMemory) = refl
text_is (failure.Image image.NotHeader) = refl
text_is (failure.Image (image.BadLine line)) = refl
text_is (failure.Image (image.WrongOrder line)) = refl
text_is (failure.Image image.CountMismatch) = refl
text_is (failure.Image image.Truncated) = refl
text_is (failure.Image image.BadVersion) = refl
text_is (failure.Image image.ReadFault) = refl
text_is (failure.Image image.OutOfMemory) = refl
text_is (failure.Line fault line) = refl
text_is (failure.Segment fault segment) = refl
text_is (failure.Log (stop.Refused fault txid)) = refl
text_is (failure.Log (stop.Disorder txid)) = refl

pub error_is : (f : RunFailure) → error_line (place_before_words f) (failure_words f) (decimal (number_of f)) ≡ (failed f).error
unfolding digits
error_is (failure.Unread input.ReadFailed) = refl
error_is (failure.Unread input.TooLong) = refl
error_is (failure.Unread input.OutOfMemory) = refl
error_is (failure.Image image.NotHeader) = refl
error_is (failure.Image (image.BadLine line)) = refl
error_is (failure.Image (image.WrongOrder line)) = refl
error_is (failure.Image image.CountMismatch) = refl
error_is (failure.Image image.Truncated) = refl
error_is (failure.Image image.BadVersion) = refl
error_is (failure.Image image.ReadFault) = refl
error_is (failure.Image image.OutOfMemory) = refl
error_is (failure.Line fault line) = refl
error_is (failure.Segment fault segment) = refl
error_is (failure.Log (stop.Refused fault txid)) = refl
error_is (failure.Log (stop.Disorder txid)) = refl

-- it is never empty
pub error_said : (f : RunFailure) → (failed f).error ≡ [] → ⊥
error_said f none = let e : error_line (place_before_words f) (failure_words f) (decimal (number_of f)) ≡ [] = error_is f ∙ none in cc
