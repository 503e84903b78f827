-- The log of what sources gave, and how a walk over segments goes through it.
use Rattle.std.specs.Prelude.{◌≡◌, ℕ, ◌+◌, ◌-◌, ◌<◌, ◌≤◌, List, [], ◌∷◌, ◌++◌, length, drop, Ok, Err}
use Rattle.nn_types.specs.declared.tx.Tx.{Tx}
use Rattle.nn_model.specs.Log.{counted, log_of, CountsUp}
use Rattle.nn_segment.specs.Segment.{Segment, first_txid, last_txid, IsSegment}
use Rattle.nn_segment.specs.Source.{Answer, given, end}
use Rattle.nn_segment.specs.declared.fault.SourceFault.{SourceFault}
use Rattle.nn_segment.specs.declared.source.Item.TheVariants as item

-- the transactions of each segment among the answers
abbrev pub segments_in : List Answer → List (List Tx)
segments_in [] = []
segments_in (Ok (item.Segment s) ∷ answers) = s.txs ∷ segments_in answers
segments_in (Ok item.End ∷ answers) = segments_in answers
segments_in (Err fault ∷ answers) = segments_in answers

-- the log that the answers hold after this txid
abbrev pub log_in : ℕ → List Answer → List Tx
log_in last answers = log_of last (segments_in answers)

-- ---- Transaction by transaction.

-- an old transaction is passed over
abbrev pub OldIsPassedOver : Type 0
OldIsPassedOver = (last : ℕ) (tx : Tx) (txs : List Tx) → tx.txid ≤ last → counted last (tx ∷ txs) ≡ counted last txs

-- the next one is taken
abbrev pub NextTxIsTaken : Type 0
NextTxIsTaken = (last : ℕ) (tx : Tx) (txs : List Tx) → tx.txid ≡ last + 1 → counted last (tx ∷ txs) ≡ tx ∷ counted (last + 1) txs

-- ---- Segment by segment.

-- a segment that ends no higher than the last transaction adds nothing
abbrev pub OldSegmentAddsNothing : Type 0
OldSegmentAddsNothing = (last : ℕ) (s : Segment) → IsSegment s → last_txid s.txs ≤ last → counted last s.txs ≡ []

-- nor does one that begins above the next
abbrev pub HighSegmentAddsNothing : Type 0
HighSegmentAddsNothing = (last : ℕ) (s : Segment) → IsSegment s → last + 1 < first_txid s.txs → counted last s.txs ≡ []

-- of any other all except the old transactions count, and the next one comes first
abbrev pub SegmentAddsTheRest : Type 0
SegmentAddsTheRest = (last : ℕ) (s : Segment) → IsSegment s → first_txid s.txs ≤ last + 1
    → (counted last s.txs ≡ drop (last + 1 - first_txid s.txs) s.txs) × CountsUp last (drop (last + 1 - first_txid s.txs) s.txs)

-- ---- Answer by answer.

-- Where so much of the log was applied and the rest of it is in hand, one more segment adds what counts after that rest.
abbrev pub SegmentBehindTheRest : Type 0
SegmentBehindTheRest = (last : ℕ) (answers : List Answer) (applied rest : List Tx) (s : Segment) → log_in last answers ≡ applied ++ rest
    → log_in last (answers ++ given s ∷ []) ≡ applied ++ (rest ++ counted (last + length applied + length rest) s.txs)

-- the end adds nothing, and a fault adds nothing
abbrev pub EndAddsNothing : Type 0
EndAddsNothing = (last : ℕ) (answers : List Answer) → log_in last (answers ++ end ∷ []) ≡ log_in last answers

abbrev pub FaultAddsNothing : Type 0
FaultAddsNothing = (last : ℕ) (answers : List Answer) (fault : SourceFault) → log_in last (answers ++ Err fault ∷ []) ≡ log_in last answers
