-- The segment that bytes are under a name, or the first fault that applies.
use Rattle.std.specs.Prelude.{ℕ, ◌+◌, List, [], ◌∷◌, length, drop, Bool, false, not, ◌==◌, ◌&&◌, nat_lt, if◌then◌else◌, Option, Some, None, is_none, Result, Ok, Err}
use Rattle.nn_edits.specs.declared.fault.LineFault.{LineFault}
use Rattle.nn_edits.specs.declared.fault.LineFault.TheVariants as line
use Rattle.nn_types.specs.declared.tx.Tx.{Tx}
use Rattle.nn_types.specs.declared.profile.Profile.{Profile}
use Rattle.nn_model.specs.Apply.{fault_if, first_fault}
use Rattle.nn_segment.specs.declared.fault.SegmentFault.{SegmentFault}
use Rattle.nn_segment.specs.declared.fault.SegmentFault.TheVariants.{BadName, TooLong, NoStart, TornLine, BadLine, Gap, WrongProfile, NoEnd, NameMismatch, OutOfMemory}
use Rattle.nn_segment.specs.Name.{txids_of}
use Rattle.nn_segment.specs.Lines.{lines_of, is_ended, reads_of}
use Rattle.nn_segment.specs.Segment.{Segment, max_bytes, start_profile, allows, ends_once, first_txid, last_txid}

-- ---- Line by line.

-- the first fault from line n on, which is to be the transaction with the expected txid, in a segment of this profile
abbrev pub later_fault : Profile → ℕ → ℕ → List (Result Tx LineFault) → Option SegmentFault
later_fault profile n expected [] = None
later_fault profile n expected (Err fault ∷ reads) = Some (BadLine n fault)
later_fault profile n expected (Ok tx ∷ reads) =
    if tx.txid == expected then (if allows profile tx.edit then later_fault profile (n + 1) (tx.txid + 1) reads else Some (WrongProfile n)) else Some (Gap expected)

-- the first fault of the lines after the first one, which is to be a start mark
abbrev pub after_start : Option Profile → ℕ → List (Result Tx LineFault) → Option SegmentFault
after_start None expected reads = Some NoStart
after_start (Some profile) expected reads = later_fault profile 2 expected reads

-- the first fault of the lines: each is a transaction, the first a start mark, each later one the next after the one before
abbrev pub lines_fault : List (Result Tx LineFault) → Option SegmentFault
lines_fault [] = None
lines_fault (Err fault ∷ reads) = Some (BadLine 1 fault)
lines_fault (Ok tx ∷ reads) = after_start (start_profile tx.edit) (tx.txid + 1) reads

-- the transactions among what was read
abbrev pub txs_in : List (Result Tx LineFault) → List Tx
txs_in [] = []
txs_in (Ok tx ∷ reads) = tx ∷ txs_in reads
txs_in (Err fault ∷ reads) = txs_in reads

-- whether these are the first and the last txid
abbrev pub names_txids : Option (ℕ × ℕ) → List Tx → Bool
names_txids (Some txids) txs = (txids.0 == first_txid txs) && (txids.1 == last_txid txs)
names_txids None txs = false

-- the fault of a bad line; no line says that memory runs out
abbrev pub fault_of_line : ℕ → LineFault → SegmentFault
fault_of_line n line.OutOfMemory = OutOfMemory
fault_of_line n fault = BadLine n fault

-- ---- The checks in order, of which the first that finds a fault decides.

-- of the bytes, before any line is read
abbrev pub bytes_checks : List ℕ → List (Option SegmentFault)
bytes_checks bytes =
    fault_if (nat_lt max_bytes (length bytes)) TooLong
    ∷ fault_if (length bytes == 0) NoStart
    ∷ fault_if (not (is_ended bytes)) (TornLine (length (lines_of bytes)))
    ∷ []

-- of the lines as they were read, under a name with these txids
abbrev pub lines_checks : Option (ℕ × ℕ) → List (Result Tx LineFault) → List (Option SegmentFault)
lines_checks txids reads =
    lines_fault reads ∷ fault_if (not (ends_once (drop 1 (txs_in reads)))) NoEnd ∷ fault_if (not (names_txids txids (txs_in reads))) NameMismatch ∷ []

-- why the bytes are no segment of that name
unfoldable pub fault_of_segment : List ℕ → List ℕ → Option SegmentFault
fault_of_segment name bytes = first_fault (fault_if (is_none (txids_of name)) BadName ∷ first_fault (bytes_checks bytes) ∷ first_fault (lines_checks (txids_of name) (reads_of bytes)) ∷ [])

-- the value, unless there is a fault
abbrev pub unless : {A : Type 0} → Option SegmentFault → A → Result A SegmentFault
unless None value = Ok value
unless (Some fault) value = Err fault

-- the segment, or its first fault
unfoldable pub read_segment : List ℕ → List ℕ → Result Segment SegmentFault
read_segment name bytes = unless (fault_of_segment name bytes) (record { name = name; bytes = bytes; txs = txs_in (reads_of bytes) })
