-- The names of all faults, and the numbers of those of this crate.
use Rattle.std.specs.Prelude.{◌==◌, ℕ, Bool, List, [], Option, Some, None, codes, if◌then◌else◌}
use Rattle.std.specs.List.{before_first, list_any}
use Rattle.nn_types.specs.declared.path.PathFault.{PathFault}
use Rattle.nn_types.specs.declared.path.PathFault.TheVariants.{BadPath, OutOfMemory}
use Rattle.nn_types.specs.declared.fault.TheConstants.{NOT_JSON, MISSING_FIELD, BAD_NUMBER, UNKNOWN_OP, BAD_PATH, LINE_TOO_LONG, UNKNOWN_KIND, INPUT_FAULT}
use Rattle.nn_types.specs.declared.fault.TheConstants.{BAD_NAME, NO_START, NO_END, GAP, TORN_LINE, NAME_MISMATCH, TOO_LONG, BAD_LINE, WRONG_PROFILE}
use Rattle.nn_types.specs.declared.fault.TheConstants.{EXISTS, MISSING, NOT_DIRECTORY, NOT_FILE, IS_ROOT, INTO_ITSELF, NOT_OPEN, WRONG_BLOCKS, BAD_GENERATION, BAD_BLOCK_ID, BAD_REPLICATION, NOT_CLOSED, LOWER_PROFILE}
use Rattle.nn_types.specs.declared.fault.TheConstants.{FULL, CLOSED, EXHAUSTED, ENDED, GONE, SOURCE_FAILED, STOPPED, INTAKE_OPEN, ALREADY_ACTIVE, LOG_NOT_ENDED, MEMORY, BAD_LANE, DISORDER, WRONG_NUMBER, STALE_EPOCH}
use Rattle.nn_types.specs.declared.fault.TheConstants.{NOT_HEADER, BAD_IMAGE_LINE, WRONG_ORDER, COUNT_MISMATCH, TRUNCATED, BAD_VERSION, READ_FAULT, WRITE_FAULT}

abbrev pub number_of : PathFault → ℕ
number_of BadPath = BAD_PATH
number_of OutOfMemory = MEMORY

-- the name of the fault with this number
unfoldable pub fault_name : ℕ → Option (List ℕ)
fault_name number =
    if number == NOT_JSON then Some (codes "NotJson") else (
    if number == MISSING_FIELD then Some (codes "MissingField") else (
    if number == BAD_NUMBER then Some (codes "BadNumber") else (
    if number == UNKNOWN_OP then Some (codes "UnknownOp") else (
    if number == BAD_PATH then Some (codes "BadPath") else (
    if number == LINE_TOO_LONG then Some (codes "LineTooLong") else (
    if number == UNKNOWN_KIND then Some (codes "UnknownKind") else (
    if number == INPUT_FAULT then Some (codes "InputFault") else (
    if number == BAD_NAME then Some (codes "BadName") else (
    if number == NO_START then Some (codes "NoStart") else (
    if number == NO_END then Some (codes "NoEnd") else (
    if number == GAP then Some (codes "Gap") else (
    if number == TORN_LINE then Some (codes "TornLine") else (
    if number == NAME_MISMATCH then Some (codes "NameMismatch") else (
    if number == TOO_LONG then Some (codes "TooLong") else (
    if number == BAD_LINE then Some (codes "BadLine") else (
    if number == WRONG_PROFILE then Some (codes "WrongProfile") else (
    if number == EXISTS then Some (codes "Exists") else (
    if number == MISSING then Some (codes "Missing") else (
    if number == NOT_DIRECTORY then Some (codes "NotDirectory") else (
    if number == NOT_FILE then Some (codes "NotFile") else (
    if number == IS_ROOT then Some (codes "IsRoot") else (
    if number == INTO_ITSELF then Some (codes "IntoItself") else (
    if number == NOT_OPEN then Some (codes "NotOpen") else (
    if number == WRONG_BLOCKS then Some (codes "WrongBlocks") else (
    if number == BAD_GENERATION then Some (codes "BadGeneration") else (
    if number == BAD_BLOCK_ID then Some (codes "BadBlockId") else (
    if number == BAD_REPLICATION then Some (codes "BadReplication") else (
    if number == NOT_CLOSED then Some (codes "NotClosed") else (
    if number == LOWER_PROFILE then Some (codes "LowerProfile") else (
    if number == FULL then Some (codes "Full") else (
    if number == CLOSED then Some (codes "Closed") else (
    if number == EXHAUSTED then Some (codes "Exhausted") else (
    if number == ENDED then Some (codes "Ended") else (
    if number == GONE then Some (codes "Gone") else (
    if number == SOURCE_FAILED then Some (codes "SourceFailed") else (
    if number == STOPPED then Some (codes "Stopped") else (
    if number == INTAKE_OPEN then Some (codes "IntakeOpen") else (
    if number == ALREADY_ACTIVE then Some (codes "AlreadyActive") else (
    if number == LOG_NOT_ENDED then Some (codes "LogNotEnded") else (
    if number == MEMORY then Some (codes "Memory") else (
    if number == BAD_LANE then Some (codes "BadLane") else (
    if number == DISORDER then Some (codes "Disorder") else (
    if number == WRONG_NUMBER then Some (codes "WrongNumber") else (
    if number == STALE_EPOCH then Some (codes "StaleEpoch") else (
    if number == NOT_HEADER then Some (codes "NotHeader") else (
    if number == BAD_IMAGE_LINE then Some (codes "BadLine") else (
    if number == WRONG_ORDER then Some (codes "WrongOrder") else (
    if number == COUNT_MISMATCH then Some (codes "CountMismatch") else (
    if number == TRUNCATED then Some (codes "Truncated") else (
    if number == BAD_VERSION then Some (codes "BadVersion") else (
    if number == READ_FAULT then Some (codes "ReadFault") else (
    if number == WRITE_FAULT then Some (codes "WriteFault") else (
    None)))))))))))))))))))))))))))))))))))))))))))))))))))))

abbrev pub is_colon : ℕ → Bool
is_colon c = c == 58

-- the name that an explanation begins with: what comes before its first colon, and nothing where it has none
abbrev pub name_in : List ℕ → List ℕ
name_in text = if list_any is_colon text then before_first is_colon text else []
