-- What a run wrote, beside what its reader had.
use Rattle.std.specs.Prelude.{◌≡◌, ◌⊎◌, ◌+◌, ◌∷◌, [], ◌++◌, ℕ, Bool, List, length, Option, Some, None, codes}
use Rattle.std.specs.Io.KnownBytes.{Consumes, IsAtEnd}
use Rattle.nn_bytes.specs.Lines.{line_feed}
use Rattle.nn_types.specs.declared.fault.TheConstants.{INPUT_FAULT, MEMORY}
use Rattle.nn_edits.specs.Fault.{number_of as line_number_of}
use Rattle.nn_segment.specs.Fault.{number_of as segment_number_of}
use Rattle.nn_segment.specs.LogEnd.{refused, disorder, stop_number}
use Rattle.nn_image.specs.Fault.{number_of as image_number_of}
use Rattle.nn_device.specs.Device.{Reader, Writer, Took}
use Rattle.nn_device.specs.Parts.{TookPrefix}
use Rattle.nn_device.specs.declared.writer.OutputFault.TheVariants.{WriteFailed}
use Rattle.nn_run.specs.Errors.{error_line, input_words}
use Rattle.nn_run.specs.Input.{IsWithinLimits, IsUnread}
use Rattle.nn_input.specs.declared.fault.InputFault.{InputFault}
use Rattle.nn_input.specs.declared.fault.InputFault.TheVariants.{ReadFailed, TooLong, OutOfMemory}
use Rattle.nn_run.specs.declared.engine.Options.{Options}
use Rattle.nn_run.specs.declared.failure.RunFailure.{RunFailure}
use Rattle.nn_run.specs.declared.failure.RunFailure.TheVariants as failure
use Rattle.nn_run.specs.declared.follower.LogFault.TheVariants as stop
use Rattle.nn_run.specs.declared.output.RunFault.{RunFault}
use Rattle.nn_run.specs.Output.{Printed, IsPrinted, image_fault, line_fault, log_fault, segment_fault}

-- ---- Faults.

-- one line with a fault's number alone
abbrev pub fault_alone : List ℕ → List ℕ → Printed
fault_alone number words = record { text = codes "fault " ++ number ++ line_feed ∷ []; status = 1; error = error_line [] words number }

-- an input that was not read
abbrev pub unread : InputFault → Printed
unread ReadFailed = fault_alone (codes "8") (input_words ReadFailed)
unread TooLong = fault_alone (codes "8") (input_words TooLong)
unread OutOfMemory = fault_alone (codes "55") (input_words OutOfMemory)

abbrev pub unread_line : InputFault → List ℕ
unread_line fault = (unread fault).text

-- what is printed of a run that this ended
abbrev pub failed : RunFailure → Printed
failed (failure.Unread fault) = unread fault
failed (failure.Image fault) = image_fault fault
failed (failure.Line fault line) = line_fault (record { fault = fault; line = line })
failed (failure.Segment fault segment) = segment_fault (record { fault = fault; segment = segment })
failed (failure.Log (stop.Refused fault txid)) = log_fault (record { cause = refused fault; txid = txid })
failed (failure.Log (stop.Disorder txid)) = log_fault (record { cause = disorder; txid = txid })

abbrev pub number_of : RunFailure → ℕ
number_of (failure.Unread ReadFailed) = INPUT_FAULT
number_of (failure.Unread TooLong) = INPUT_FAULT
number_of (failure.Unread OutOfMemory) = MEMORY
number_of (failure.Image fault) = image_number_of fault
number_of (failure.Line fault line) = line_number_of fault
number_of (failure.Segment fault segment) = segment_number_of fault
number_of (failure.Log (stop.Refused fault txid)) = stop_number (refused fault)
number_of (failure.Log (stop.Disorder txid)) = stop_number disorder

-- what it says on standard error, where something ended a run
abbrev pub error_of : Option RunFailure → List ℕ
error_of None = []
error_of (Some why) = (failed why).error

-- ---- What was written.

-- What a run is asked for, and its reader before and after.
pub record Given : Type 0 where
  pub options : Options
  pub threads : Bool  -- whether each DataNode reports from a thread of its own
  pub before : Reader
  pub after : Reader

-- all that the reader gave, up to its end, is the input that the output is of
pub record IsOutputOfAll (given : Given) (p : Printed) : Type 0 where
  pub input : List ℕ
  pub taken : Consumes given.before.left given.after.left input
  pub counted : given.after.given ≡ given.before.given + length input
  pub whole : IsAtEnd given.after.left
  pub fits : IsWithinLimits given.options.from_image input
  pub is : IsPrinted given.threads given.options input p

-- no read failed
abbrev pub NoneFailed : Given → Type 0
NoneFailed given = given.after.failed ≡ given.before.failed

-- the output of the whole input; or the fault of an input that was not read, where that is so
abbrev pub IsOutput : Given → Printed → Type 0
IsOutput given p =
    (IsOutputOfAll given p × NoneFailed given)
    ⊎ ((fault : InputFault) × (p ≡ unread fault) × IsUnread given.options.from_image given.before given.after fault)

-- a whole output was written, this is its status, and this is to be told on standard error
pub record WroteOutput (given : Given) (writer writer' : Writer) (status : ℕ) (error : List ℕ) : Type 0 where
  pub output : Printed
  pub right : IsOutput given output
  pub took : Took writer writer' output.text
  pub ends : status ≡ output.status
  pub told : error ≡ output.error

-- a prefix of the text was written, and nothing after it: the fault tells how many bytes
pub record Unfinished (writer writer' : Writer) (text : List ℕ) (fault : RunFault) : Type 0 where
  pub took : TookPrefix writer writer' text WriteFailed
  pub told : fault.written ≡ length took.prefix

-- a prefix of an output was written
pub record WroteOutputPrefix (given : Given) (writer writer' : Writer) (fault : RunFault) : Type 0 where
  pub output : Printed
  pub right : IsOutput given output
  pub prefix : Unfinished writer writer' output.text fault

-- a run, its reader as it was before and after
abbrev pub running : Options → Bool → Reader → Reader → Given
running options threads before after = record { options = options; threads = threads; before = before; after = after }
