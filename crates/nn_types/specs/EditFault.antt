-- The numbers of the faults of an edit.
use Rattle.std.specs.Prelude.{◌≡◌, ℕ, Option, Some}
use Rattle.nn_types.specs.declared.fault.TheConstants.{EXISTS, MISSING, NOT_DIRECTORY, NOT_FILE, IS_ROOT, INTO_ITSELF, NOT_OPEN, WRONG_BLOCKS}
use Rattle.nn_types.specs.declared.fault.TheConstants.{BAD_GENERATION, BAD_BLOCK_ID, BAD_REPLICATION, NOT_CLOSED, LOWER_PROFILE, MEMORY}
use Rattle.nn_types.specs.declared.edit_fault.EditFault.{EditFault}
use Rattle.nn_types.specs.declared.edit_fault.EditFault.TheVariants.{Exists, Missing, NotDirectory, NotFile, IsRoot, IntoItself, NotOpen, WrongBlocks}
use Rattle.nn_types.specs.declared.edit_fault.EditFault.TheVariants.{BadGeneration, BadBlockId, BadReplication, NotClosed, LowerProfile, OutOfMemory}

abbrev pub number_of : EditFault → ℕ
number_of Exists = EXISTS
number_of Missing = MISSING
number_of NotDirectory = NOT_DIRECTORY
number_of NotFile = NOT_FILE
number_of IsRoot = IS_ROOT
number_of IntoItself = INTO_ITSELF
number_of NotOpen = NOT_OPEN
number_of WrongBlocks = WRONG_BLOCKS
number_of BadGeneration = BAD_GENERATION
number_of BadBlockId = BAD_BLOCK_ID
number_of BadReplication = BAD_REPLICATION
number_of NotClosed = NOT_CLOSED
number_of LowerProfile = LOWER_PROFILE
number_of OutOfMemory = MEMORY

-- what a call answered is the definition's refusal, or that memory ran out
abbrev pub IsFault : EditFault → Option EditFault → Type 0
IsFault OutOfMemory refused = Unit {0}
IsFault fault refused = refused ≡ Some fault
