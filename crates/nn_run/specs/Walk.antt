-- A walk over parts of the log whose last one has not ended: whatever comes, it ends as from here.
use Rattle.std.specs.Prelude.{◌≡◌, ℕ, ◌+◌, ◌≤◌, List, [], ◌∷◌, ◌++◌, Result, Ok, Err, nat_lt, if◌then◌else◌}
use Rattle.nn_types.specs.declared.tx.Tx.{Tx}
use Rattle.nn_model.specs.Namespace.{Namespace}
use Rattle.nn_model.specs.Log.{counted}
use Rattle.nn_segment.specs.LogEnd.{LogEnd, LogStop, disorder, end_of_txs, and_then}
use Rattle.nn_segment.specs.Segment.{first_txid}

-- `end_of_log`, with the transactions of each segment for the segment
unfoldable pub end_of_parts : ℕ → Namespace → List (List Tx) → Result LogEnd LogStop
end_of_parts last n [] = Ok (record { last = last; namespace = n })
end_of_parts last n (txs ∷ parts) =
    if nat_lt (last + 1) (first_txid txs)
    then Err (record { cause = disorder; txid = last + 1 })
    else and_then (end_of_txs last n (counted last txs)) (λ end. end_of_parts end.last end.namespace parts)

-- the end of what is left of a part, and then of the parts behind it
abbrev pub end_within : ℕ → Namespace → List Tx → List (List Tx) → Result LogEnd LogStop
end_within last n back later = and_then (end_of_txs last n (counted last back)) (λ end. end_of_parts end.last end.namespace later)

-- these parts were walked through, and the prefix of the next one, to a txid and a namespace
abbrev pub HasWalked : ℕ → Namespace → List (List Tx) → List Tx → ℕ → Namespace → Type 0
HasWalked base start parts [] last n = (later : List (List Tx)) → end_of_parts base start (parts ++ later) ≡ end_of_parts last n later
HasWalked base start parts (t ∷ prefix) last n =
    (back : List Tx) (later : List (List Tx)) → end_of_parts base start (parts ++ ((t ∷ prefix) ++ back) ∷ later) ≡ end_within last n back later

-- the walk has stopped in them
abbrev pub HasStopped : ℕ → Namespace → List (List Tx) → List Tx → LogStop → Type 0
HasStopped base start parts [] stop = (later : List (List Tx)) → end_of_parts base start (parts ++ later) ≡ Err stop
HasStopped base start parts (t ∷ prefix) stop = (back : List Tx) (later : List (List Tx)) → end_of_parts base start (parts ++ ((t ∷ prefix) ++ back) ∷ later) ≡ Err stop

-- the next transaction of the part, or the first of the next part, which begins no higher than the next one
abbrev pub Fits : List Tx → ℕ → Tx → Type 0
Fits [] last tx = tx.txid ≤ last + 1
Fits (t ∷ prefix) last tx = Unit {0}
