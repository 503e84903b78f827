-- Where a log of segments ends is the log that its segments hold, as statements; the functions of the crate prove them.
use Rattle.std.specs.Prelude.{◌≡◌, ℕ, ◌+◌, List, length, map, Ok}
use Rattle.nn_types.specs.declared.tx.Tx.{Tx}
use Rattle.nn_model.specs.Namespace.{Namespace}
use Rattle.nn_model.specs.Log.{namespace_after, IsLog, log_of}
use Rattle.nn_segment.specs.Segment.{Segment}
use Rattle.nn_segment.specs.LogEnd.{LogEnd, end_of_log}

-- the end of these transactions, which are a log from this namespace and txid on
pub record IsEndOf (last : ℕ) (n : Namespace) (txs : List Tx) (end : LogEnd) : Type 0 where
  pub log : IsLog n last txs
  pub namespace : end.namespace ≡ namespace_after n txs
  pub last_txid : end.last ≡ last + length txs

-- where the walk over segments ends, it ends with the log that they hold
abbrev pub EndsWithTheLog : Type 0
EndsWithTheLog = (last : ℕ) (n : Namespace) (segments : List Segment) (end : LogEnd) → end_of_log last n segments ≡ Ok end →
    IsEndOf last n (log_of last (map (λ s. s.txs) segments)) end
