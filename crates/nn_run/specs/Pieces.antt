-- Pieces of what the code prints. For private clauses.
use Rattle.std.specs.Prelude.{ℕ, List, [], ◌∷◌, ◌++◌, Option, Some, None, codes, decimal}
use Rattle.nn_bytes.specs.Lines.{line_feed}
use Rattle.nn_image.specs.declared.fault.ImageFault.{ImageFault}
use Rattle.nn_image.specs.declared.fault.ImageFault.TheVariants as image
use Rattle.nn_segment.specs.LogEnd.{disorder, refused}
use Rattle.nn_shadow.specs.Contents.{Shadow}
use Rattle.nn_listing.specs.Counted.{summary_seen}
use Rattle.nn_listing.specs.Summary.{summary_text}
use Rattle.nn_run.specs.Errors.{image_words, input_words, line_words, segment_words, stop_words}
use Rattle.nn_run.specs.declared.failure.RunFailure.{RunFailure}
use Rattle.nn_run.specs.declared.failure.RunFailure.TheVariants as failure
use Rattle.nn_run.specs.declared.follower.LogFault.{LogFault}
use Rattle.nn_run.specs.declared.follower.LogFault.TheVariants as stop

-- a place, with which line, segment or transaction it is
abbrev pub place_text : List ℕ → Option ℕ → List ℕ
place_text place None = place
place_text place (Some n) = place ++ decimal n

-- where a fault was found
abbrev pub place_in_image : ImageFault → List ℕ
place_in_image image.NotHeader = codes " image"
place_in_image (image.BadLine line) = codes " image line " ++ decimal line
place_in_image (image.WrongOrder line) = codes " image line " ++ decimal line
place_in_image image.CountMismatch = codes " image"
place_in_image image.Truncated = codes " image"
place_in_image image.BadVersion = codes " image"
place_in_image image.ReadFault = codes " image"
place_in_image image.OutOfMemory = codes " image"

abbrev pub place_of : RunFailure → List ℕ
place_of (failure.Unread fault) = []
place_of (failure.Image fault) = place_in_image fault
place_of (failure.Line fault line) = codes " line " ++ decimal line
place_of (failure.Segment fault segment) = codes " segment " ++ decimal segment
place_of (failure.Log (stop.Refused fault txid)) = codes " txid " ++ decimal txid
place_of (failure.Log (stop.Disorder txid)) = codes " txid " ++ decimal txid

-- and where there is such a place, a colon behind it
abbrev pub place_before_words : RunFailure → List ℕ
place_before_words (failure.Unread fault) = []
place_before_words (failure.Image fault) = place_of (failure.Image fault) ++ codes ":"
place_before_words (failure.Line fault line) = place_of (failure.Line fault line) ++ codes ":"
place_before_words (failure.Segment fault segment) = place_of (failure.Segment fault segment) ++ codes ":"
place_before_words (failure.Log fault) = place_of (failure.Log fault) ++ codes ":"

-- what is wrong, in words
abbrev pub log_words : LogFault → List ℕ
log_words (stop.Refused fault txid) = stop_words (refused fault)
log_words (stop.Disorder txid) = stop_words disorder

abbrev pub failure_words : RunFailure → List ℕ
failure_words (failure.Unread fault) = input_words fault
failure_words (failure.Image fault) = image_words fault
failure_words (failure.Line fault line) = line_words fault
failure_words (failure.Segment fault segment) = segment_words fault
failure_words (failure.Log fault) = log_words fault

-- a text, where there is one
abbrev pub text_after : Option (List ℕ) → List ℕ
text_after None = []
text_after (Some text) = text

-- the summary of a standby, where there is one
abbrev pub summary_after : Option Shadow → List ℕ
summary_after None = []
summary_after (Some s) = summary_text (summary_seen s)

-- an image behind its line, where there is one
abbrev pub image_after : Option (List ℕ) → List ℕ
image_after None = []
image_after (Some image) = codes "image" ++ line_feed ∷ image
