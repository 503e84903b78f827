-- What is left of a log, and where it ends from here.
use Rattle.std.specs.Prelude.{◌≡◌, ℕ, ◌+◌, List, ◌∷◌, ◌++◌, map, flat_map, Result, Err}
use Rattle.nn_types.specs.declared.tx.Tx.{Tx}
use Rattle.nn_model.specs.Namespace.{Namespace}
use Rattle.nn_model.specs.Apply.{applied}
use Rattle.nn_model.specs.Log.{counted}
use Rattle.nn_segment.specs.Segment.{Segment}
use Rattle.nn_segment.specs.LogEnd.{disorder, LogStop, LogEnd, go_on, end_of_txs, and_then, end_of_log}

-- transactions of the segment in hand, and the segments after it
pub record LogLeft : Type 0 where
  pub txs : List Tx
  pub segments : List Segment

-- the end of what is left of a log, where it goes on from a txid and a namespace, or where and why it stops
abbrev pub end_of_left : ℕ → Namespace → LogLeft → Result LogEnd LogStop
end_of_left last n left = and_then (end_of_txs last n (counted last left.txs)) (λ end. end_of_log end.last end.namespace left.segments)

-- the transactions of it that count after a txid
abbrev pub txs_left : ℕ → LogLeft → List Tx
txs_left last left = counted last (left.txs ++ flat_map (λ segment. segment) (map (λ (s : Segment). s.txs) left.segments))

-- after this txid a transaction comes next, from whatever namespace the log goes on, and then the rest
abbrev pub ComesNext : ℕ → LogLeft → Tx → LogLeft → Type 0
ComesNext last left tx rest =
    (tx.txid ≡ last + 1)
    × ((n : Namespace) → end_of_left last n left ≡ go_on tx.txid (applied n tx.edit) (λ after. end_of_left tx.txid after rest))
    × (txs_left last left ≡ tx ∷ txs_left tx.txid rest)

-- the next transaction is not there
abbrev pub IsMissing : ℕ → LogLeft → Type 0
IsMissing last left = (n : Namespace) → end_of_left last n left ≡ Err (record { cause = disorder; txid = last + 1 })

-- the same is left, except what is passed over
abbrev pub LeavesSame : ℕ → LogLeft → LogLeft → Type 0
LeavesSame last old new = ((n : Namespace) → end_of_left last n old ≡ end_of_left last n new) × (txs_left last old ≡ txs_left last new)
