-- What calls answer, beside what the definitions give.
use Rattle.std.specs.Prelude.{◌≡◌, ◌++◌, ◌∷◌, List, map, Option, Some, None, Result, Ok, Err}
use Rattle.nn_edits.specs.declared.fault.LineFault.{LineFault}
use Rattle.nn_types.specs.declared.tx.Tx.{Tx}
use Rattle.nn_edits.specs.Outcome as line
use Rattle.nn_segment.specs.declared.fault.SegmentFault.{SegmentFault}
use Rattle.nn_segment.specs.declared.fault.SegmentFault.TheVariants.{OutOfMemory}

-- The call answered what is given. Out of memory alone is left open.
abbrev pub SegmentGives : {X : Type 0} → Result X SegmentFault → Result X SegmentFault → Type 0
SegmentGives (Ok x) given = given ≡ Ok x
SegmentGives (Err OutOfMemory) given = Unit {0}
SegmentGives (Err e) given = given ≡ Err e

-- The transactions are those of the lines up to a bad one, which has this fault or found no memory; or up to the end.
abbrev pub StopsAt : List (Result Tx LineFault) → List Tx → Option LineFault → Type 0
StopsAt reads txs None = reads ≡ map Ok txs
StopsAt reads txs (Some fault) = (read : Result Tx LineFault) × (rest : List (Result Tx LineFault)) × (reads ≡ map Ok txs ++ read ∷ rest) × line.LineFails fault read
