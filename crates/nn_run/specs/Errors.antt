-- What a run that ends with a fault says on standard error, in words: the line of an error.
use Rattle.std.specs.Prelude.{ℕ, List, ◌∷◌, [], ◌++◌, codes, decimal}
use Rattle.nn_bytes.specs.Lines.{line_feed}
use Rattle.nn_types.specs.declared.edit_fault.EditFault.{EditFault}
use Rattle.nn_types.specs.declared.edit_fault.EditFault.TheVariants as edit
use Rattle.nn_input.specs.declared.fault.InputFault.{InputFault}
use Rattle.nn_input.specs.declared.fault.InputFault.TheVariants as input
use Rattle.nn_edits.specs.declared.fault.LineFault.{LineFault}
use Rattle.nn_edits.specs.declared.fault.LineFault.TheVariants as line
use Rattle.nn_segment.specs.declared.fault.SegmentFault.{SegmentFault}
use Rattle.nn_segment.specs.declared.fault.SegmentFault.TheVariants as segment
use Rattle.nn_segment.specs.LogEnd.{StopCause, refused, disorder}
use Rattle.nn_image.specs.declared.fault.ImageFault.{ImageFault}
use Rattle.nn_image.specs.declared.fault.ImageFault.TheVariants as image

-- `error: segment 1: transaction 3 is missing (fault 14; --explain 14 says more)`, where the place is ` segment 1:`. It is empty where the fault
-- is of the whole input
abbrev pub error_line : List ℕ → List ℕ → List ℕ → List ℕ
error_line place words number =
    codes "error:" ++ place ++ codes " " ++ words ++ codes " (fault " ++ number ++ codes "; --explain " ++ number ++ codes " says more)" ++ line_feed ∷ []

-- ---- The words of each fault, as they read behind its place.

abbrev pub input_words : InputFault → List ℕ
input_words input.ReadFailed = codes "the input could not be read"
input_words input.TooLong = codes "the input is too long"
input_words input.OutOfMemory = codes "out of memory"

abbrev pub image_words : ImageFault → List ℕ
image_words image.NotHeader = codes "the first line is no header"
image_words (image.BadLine n) = codes "the line is bad"
image_words (image.WrongOrder n) = codes "the line is out of order"
image_words image.CountMismatch = codes "the number of paths is wrong"
image_words image.Truncated = codes "the image ends too early"
image_words image.BadVersion = codes "the version is unknown"
image_words image.ReadFault = codes "a read failed"
image_words image.OutOfMemory = codes "out of memory"

abbrev pub line_words : LineFault → List ℕ
line_words line.NotJson = codes "not a JSON object"
line_words line.MissingField = codes "a key is missing"
line_words line.BadNumber = codes "not a whole number in range"
line_words line.UnknownOp = codes "unknown operation"
line_words line.BadPath = codes "not a path"
line_words line.LineTooLong = codes "longer than 65536 bytes"
line_words line.UnknownKind = codes "unknown kind of report"
line_words line.OutOfMemory = codes "out of memory"

-- lines count from the first of the segment here
abbrev pub segment_words : SegmentFault → List ℕ
segment_words segment.BadName = codes "not the name of a segment"
segment_words segment.TooLong = codes "longer than 16777216 bytes"
segment_words segment.NoStart = codes "no start mark"
segment_words (segment.TornLine n) = codes "line " ++ decimal n ++ codes " has no line feed"
segment_words (segment.BadLine n fault) = codes "line " ++ decimal n ++ codes " is no transaction: " ++ line_words fault
segment_words (segment.Gap expected) = codes "transaction " ++ decimal expected ++ codes " is missing"
segment_words (segment.WrongProfile n) = codes "line " ++ decimal n ++ codes " is an append, in a segment of profile 1"
segment_words segment.NoEnd = codes "no end mark, or a mark inside"
segment_words segment.NameMismatch = codes "named for other transactions"
segment_words segment.OutOfMemory = codes "out of memory"

abbrev pub edit_words : EditFault → List ℕ
edit_words edit.Exists = codes "the path exists"
edit_words edit.Missing = codes "the path or a parent of it is missing"
edit_words edit.NotDirectory = codes "a parent of the path is a file"
edit_words edit.NotFile = codes "the path is a directory"
edit_words edit.IsRoot = codes "the path is the root"
edit_words edit.IntoItself = codes "the path would lie below itself"
edit_words edit.NotOpen = codes "the file is closed"
edit_words edit.WrongBlocks = codes "the blocks are not those of the file"
edit_words edit.BadGeneration = codes "a generation stamp is out of range"
edit_words edit.BadBlockId = codes "the block id does not await, or was issued before"
edit_words edit.BadReplication = codes "the replication is not 1 to 512"
edit_words edit.NotClosed = codes "the file is open"
edit_words edit.LowerProfile = codes "the profile is lower than that of an earlier segment"
edit_words edit.OutOfMemory = codes "out of memory"

abbrev pub stop_words : StopCause → List ℕ
stop_words (refused fault) = edit_words fault
stop_words disorder = codes "the transaction is missing"
