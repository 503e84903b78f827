-- The numbers of the faults of this crate.
use Rattle.std.specs.Prelude.{ℕ}
use Rattle.nn_types.specs.declared.fault.TheConstants.{BAD_NAME, NO_START, NO_END, GAP, TORN_LINE, NAME_MISMATCH, TOO_LONG, BAD_LINE, WRONG_PROFILE, GONE, SOURCE_FAILED, MEMORY}
use Rattle.nn_segment.specs.declared.fault.SegmentFault.{SegmentFault}
use Rattle.nn_segment.specs.declared.fault.SegmentFault.TheVariants.{BadName, TooLong, NoStart, TornLine, BadLine, Gap, WrongProfile, NoEnd, NameMismatch, OutOfMemory}
use Rattle.nn_segment.specs.declared.fault.SourceFault.{SourceFault}
use Rattle.nn_segment.specs.declared.fault.SourceFault.TheVariants as source

abbrev pub number_of : SegmentFault → ℕ
number_of BadName = BAD_NAME
number_of TooLong = TOO_LONG
number_of NoStart = NO_START
number_of (TornLine line) = TORN_LINE
number_of (BadLine line fault) = BAD_LINE
number_of (Gap expected) = GAP
number_of (WrongProfile line) = WRONG_PROFILE
number_of NoEnd = NO_END
number_of NameMismatch = NAME_MISMATCH
number_of OutOfMemory = MEMORY

abbrev pub number_of_source : SourceFault → ℕ
number_of_source source.Gone = GONE
number_of_source source.SourceFailed = SOURCE_FAILED
number_of_source source.OutOfMemory = MEMORY
