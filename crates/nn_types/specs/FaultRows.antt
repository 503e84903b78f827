-- The number of each fault, by its digits, and its name.
use Rattle.std.specs.Prelude.{◌≡◌, [], ◌∷◌, map, codes, decimal, Some, None, refl}
use Rattle.std.specs.Fmt.{digits}
use Rattle.nn_types.specs.Fault.{name_in, fault_name}
use Rattle.nn_types.specs.declared.fault.TheConstants.{NOT_JSON, MISSING_FIELD, BAD_NUMBER, UNKNOWN_OP, BAD_PATH, LINE_TOO_LONG, UNKNOWN_KIND, INPUT_FAULT}
use Rattle.nn_types.specs.declared.fault.TheConstants.{BAD_NAME, NO_START, NO_END, GAP, TORN_LINE, NAME_MISMATCH, TOO_LONG, BAD_LINE, WRONG_PROFILE}
use Rattle.nn_types.specs.declared.fault.TheConstants.{EXISTS, MISSING, NOT_DIRECTORY, NOT_FILE, IS_ROOT, INTO_ITSELF, NOT_OPEN, WRONG_BLOCKS, BAD_GENERATION, BAD_BLOCK_ID, BAD_REPLICATION, NOT_CLOSED, LOWER_PROFILE}
use Rattle.nn_types.specs.declared.fault.TheConstants.{FULL, CLOSED, EXHAUSTED, ENDED, GONE, SOURCE_FAILED, STOPPED, INTAKE_OPEN, ALREADY_ACTIVE, LOG_NOT_ENDED, MEMORY, BAD_LANE, DISORDER, WRONG_NUMBER, STALE_EPOCH}
use Rattle.nn_types.specs.declared.fault.TheConstants.{NOT_HEADER, BAD_IMAGE_LINE, WRONG_ORDER, COUNT_MISMATCH, TRUNCATED, BAD_VERSION, READ_FAULT, WRITE_FAULT}

of_lines : map decimal (NOT_JSON ∷ MISSING_FIELD ∷ BAD_NUMBER ∷ UNKNOWN_OP ∷ BAD_PATH ∷ LINE_TOO_LONG ∷ UNKNOWN_KIND ∷ INPUT_FAULT ∷ [])
    ≡ codes "1" ∷ codes "2" ∷ codes "3" ∷ codes "4" ∷ codes "5" ∷ codes "6" ∷ codes "7" ∷ codes "8" ∷ []
unfolding digits
of_lines = refl

of_segments : map decimal (BAD_NAME ∷ NO_START ∷ NO_END ∷ GAP ∷ TORN_LINE ∷ NAME_MISMATCH ∷ TOO_LONG ∷ BAD_LINE ∷ WRONG_PROFILE ∷ [])
    ≡ codes "11" ∷ codes "12" ∷ codes "13" ∷ codes "14" ∷ codes "15" ∷ codes "16" ∷ codes "17" ∷ codes "18" ∷ codes "19" ∷ []
unfolding digits
of_segments = refl

of_edits : map decimal (EXISTS ∷ MISSING ∷ NOT_DIRECTORY ∷ NOT_FILE ∷ IS_ROOT ∷ INTO_ITSELF ∷ NOT_OPEN ∷ WRONG_BLOCKS ∷ BAD_GENERATION ∷ BAD_BLOCK_ID ∷ BAD_REPLICATION ∷ NOT_CLOSED ∷ LOWER_PROFILE ∷ [])
    ≡ codes "21" ∷ codes "22" ∷ codes "23" ∷ codes "24" ∷ codes "25" ∷ codes "26" ∷ codes "27" ∷ codes "28" ∷ codes "29" ∷ codes "30" ∷ codes "31" ∷ codes "32" ∷ codes "33" ∷ []
unfolding digits
of_edits = refl

of_lanes_and_standbys : map decimal (FULL ∷ CLOSED ∷ EXHAUSTED ∷ ENDED ∷ GONE ∷ SOURCE_FAILED ∷ STOPPED ∷ INTAKE_OPEN ∷ ALREADY_ACTIVE ∷ LOG_NOT_ENDED ∷ MEMORY ∷ BAD_LANE ∷ DISORDER ∷ WRONG_NUMBER ∷ STALE_EPOCH ∷ [])
    ≡ codes "41" ∷ codes "42" ∷ codes "43" ∷ codes "45" ∷ codes "46" ∷ codes "47" ∷ codes "51" ∷ codes "52" ∷ codes "53" ∷ codes "54" ∷ codes "55" ∷ codes "56" ∷ codes "57" ∷ codes "58" ∷ codes "59" ∷ []
unfolding digits
of_lanes_and_standbys = refl

of_images : map decimal (NOT_HEADER ∷ BAD_IMAGE_LINE ∷ WRONG_ORDER ∷ COUNT_MISMATCH ∷ TRUNCATED ∷ BAD_VERSION ∷ READ_FAULT ∷ WRITE_FAULT ∷ [])
    ≡ codes "61" ∷ codes "62" ∷ codes "63" ∷ codes "64" ∷ codes "65" ∷ codes "66" ∷ codes "67" ∷ codes "68" ∷ []
unfolding digits
of_images = refl

names_of_lines : map fault_name (1 ∷ 2 ∷ 3 ∷ 4 ∷ 5 ∷ 6 ∷ 7 ∷ 8 ∷ [])
    ≡ map Some (codes "NotJson" ∷ codes "MissingField" ∷ codes "BadNumber" ∷ codes "UnknownOp" ∷ codes "BadPath" ∷ codes "LineTooLong" ∷ codes "UnknownKind" ∷ codes "InputFault" ∷ [])
unfolding fault_name
names_of_lines = refl

names_of_segments : map fault_name (11 ∷ 12 ∷ 13 ∷ 14 ∷ 15 ∷ 16 ∷ 17 ∷ 18 ∷ 19 ∷ [])
    ≡ map Some (codes "BadName" ∷ codes "NoStart" ∷ codes "NoEnd" ∷ codes "Gap" ∷ codes "TornLine" ∷ codes "NameMismatch" ∷ codes "TooLong" ∷ codes "BadLine" ∷ codes "WrongProfile" ∷ [])
unfolding fault_name
names_of_segments = refl

names_of_edits : map fault_name (21 ∷ 22 ∷ 23 ∷ 24 ∷ 25 ∷ 26 ∷ 27 ∷ 28 ∷ 29 ∷ 30 ∷ 31 ∷ 32 ∷ 33 ∷ [])
    ≡ map Some (codes "Exists" ∷ codes "Missing" ∷ codes "NotDirectory" ∷ codes "NotFile" ∷ codes "IsRoot" ∷ codes "IntoItself" ∷ codes "NotOpen" ∷ codes "WrongBlocks" ∷ codes "BadGeneration" ∷ codes "BadBlockId" ∷ codes "BadReplication" ∷ codes "NotClosed" ∷ codes "LowerProfile" ∷ [])
unfolding fault_name
names_of_edits = refl

names_of_lanes_and_standbys : map fault_name (41 ∷ 42 ∷ 43 ∷ 45 ∷ 46 ∷ 47 ∷ 51 ∷ 52 ∷ 53 ∷ 54 ∷ 55 ∷ 56 ∷ 57 ∷ 58 ∷ 59 ∷ [])
    ≡ map Some (codes "Full" ∷ codes "Closed" ∷ codes "Exhausted" ∷ codes "Ended" ∷ codes "Gone" ∷ codes "SourceFailed" ∷ codes "Stopped" ∷ codes "IntakeOpen" ∷ codes "AlreadyActive" ∷ codes "LogNotEnded" ∷ codes "Memory" ∷ codes "BadLane" ∷ codes "Disorder" ∷ codes "WrongNumber" ∷ codes "StaleEpoch" ∷ [])
unfolding fault_name
names_of_lanes_and_standbys = refl

names_of_images : map fault_name (61 ∷ 62 ∷ 63 ∷ 64 ∷ 65 ∷ 66 ∷ 67 ∷ 68 ∷ [])
    ≡ map Some (codes "NotHeader" ∷ codes "BadLine" ∷ codes "WrongOrder" ∷ codes "CountMismatch" ∷ codes "Truncated" ∷ codes "BadVersion" ∷ codes "ReadFault" ∷ codes "WriteFault" ∷ [])
unfolding fault_name
names_of_images = refl

names_of_no_faults : map fault_name (0 ∷ 9 ∷ 10 ∷ 20 ∷ 34 ∷ 35 ∷ 36 ∷ 37 ∷ 38 ∷ 39 ∷ 40 ∷ 44 ∷ 48 ∷ 49 ∷ 50 ∷ 60 ∷ 69 ∷ 70 ∷ 255 ∷ [])
    ≡ None ∷ None ∷ None ∷ None ∷ None ∷ None ∷ None ∷ None ∷ None ∷ None ∷ None ∷ None ∷ None ∷ None ∷ None ∷ None ∷ None ∷ None ∷ None ∷ []
unfolding fault_name
names_of_no_faults = refl

names_in_texts : map name_in (codes "Gap: a txid: missing" ∷ codes "Gap" ∷ codes ": a txid" ∷ [])
    ≡ codes "Gap" ∷ [] ∷ [] ∷ []
names_in_texts = refl
