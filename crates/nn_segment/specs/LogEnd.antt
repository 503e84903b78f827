-- Where a log of segments ends: at its last transaction, before the first one that is refused, or before a gap.
use Rattle.std.specs.Prelude.{ℕ, ◌+◌, List, [], ◌∷◌, Result, Ok, Err, nat_lt, if◌then◌else◌}
use Rattle.nn_types.specs.declared.fault.TheConstants.{DISORDER}
use Rattle.nn_types.specs.declared.tx.Tx.{Tx}
use Rattle.nn_types.specs.declared.edit_fault.EditFault.{EditFault}
use Rattle.nn_types.specs.EditFault.{number_of}
use Rattle.nn_model.specs.Namespace.{Namespace}
use Rattle.nn_model.specs.Apply.{applied}
use Rattle.nn_model.specs.Log.{counted}
use Rattle.nn_segment.specs.Segment.{Segment, first_txid}
use Rattle.nn_segment.specs.Source.{Answer}
use Rattle.nn_segment.specs.declared.source.Item.TheVariants as item

-- why a log stops: a transaction is refused, or the next one is not there
pub data StopCause : Type 0 where
  refused : EditFault → StopCause
  disorder : StopCause

-- the number of the fault that it stops with
abbrev pub stop_number : StopCause → ℕ
stop_number (refused fault) = number_of fault
stop_number disorder = DISORDER

-- a log stops before the transaction with this txid
pub record LogStop : Type 0 where
  pub cause : StopCause
  pub txid : ℕ

pub record LogEnd : Type 0 where
  pub last : ℕ  -- the last txid
  pub namespace : Namespace

abbrev pub go_on : ℕ → Result Namespace EditFault → (Namespace → Result LogEnd LogStop) → Result LogEnd LogStop
go_on txid (Ok n) rest = rest n
go_on txid (Err fault) rest = Err (record { cause = refused fault; txid = txid })

-- the end of transactions that are applied one by one from a namespace
unfoldable pub end_of_txs : ℕ → Namespace → List Tx → Result LogEnd LogStop
end_of_txs last n [] = Ok (record { last = last; namespace = n })
end_of_txs last n (tx ∷ txs) = go_on tx.txid (applied n tx.edit) (λ next. end_of_txs tx.txid next txs)

abbrev pub and_then : Result LogEnd LogStop → (LogEnd → Result LogEnd LogStop) → Result LogEnd LogStop
and_then (Ok end) rest = rest end
and_then (Err stop) rest = Err stop

-- The end of a log that goes on from a txid and a namespace, or where and why it stops. A segment may begin no higher
-- than the next txid. Of its transactions those that are no higher than the last one are passed over.
unfoldable pub end_of_log : ℕ → Namespace → List Segment → Result LogEnd LogStop
end_of_log last n [] = Ok (record { last = last; namespace = n })
end_of_log last n (s ∷ segments) =
    if nat_lt (last + 1) (first_txid s.txs)
    then Err (record { cause = disorder; txid = last + 1 })
    else and_then (end_of_txs last n (counted last s.txs)) (λ end. end_of_log end.last end.namespace segments)

-- the end of what is in hand, and then of segments
abbrev pub end_behind : ℕ → Namespace → List Tx → List Segment → Result LogEnd LogStop
end_behind last n txs segments = and_then (end_of_txs last n txs) (λ end. end_of_log end.last end.namespace segments)

-- the segments among the answers of sources, in order
abbrev pub given_in : List Answer → List Segment
given_in [] = []
given_in (Ok (item.Segment s) ∷ answers) = s ∷ given_in answers
given_in (Ok item.End ∷ answers) = given_in answers
given_in (Err fault ∷ answers) = given_in answers
