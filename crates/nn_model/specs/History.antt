-- Histories of a standby: the transactions that it applied and the items that it processed, in order.
use Rattle.std.specs.Prelude.{◌≡◌, ℕ, Bool, true, false, ◌&&◌, List, [], ◌∷◌, ◌++◌, length, take, Option, Some, None, filter_map, ◌==◌, ◌+◌, if◌then◌else◌}
use Rattle.std.specs.List.{list_any}
use Rattle.nn_types.specs.declared.report.Message.{Message}
use Rattle.nn_types.specs.declared.event.Event.{Event}
use Rattle.nn_types.specs.declared.event.Event.TheVariants.{Applied, Processed}
use Rattle.nn_types.specs.declared.event.Cause.{Cause}
use Rattle.nn_types.specs.declared.event.Cause.TheVariants.{Due, Flush}
use Rattle.nn_types.specs.declared.tx.Tx.{Tx}
use Rattle.nn_model.specs.Namespace.{Namespace}
use Rattle.nn_model.specs.Log.{namespace_after}

abbrev pub History : Type 0
History = List Event

-- the item was processed for this cause
abbrev pub processed : Cause → Message → Event
processed cause m = Processed m.dn m.number m.block cause

abbrev pub is_flush : Event → Bool
is_flush (Applied txid) = false
is_flush (Processed dn number block Due) = false
is_flush (Processed dn number block Flush) = true

-- nothing was flushed yet
abbrev pub IsBeforeFlush : History → Type 0
IsBeforeFlush events = list_any is_flush events ≡ false

-- ---- What was applied.

abbrev pub applied_txid : Event → Option ℕ
applied_txid (Applied txid) = Some txid
applied_txid (Processed dn number block cause) = None

-- the txids that were applied, in order
abbrev pub applied_txids : History → List ℕ
applied_txids events = filter_map applied_txid events

-- the namespace of the moment before which these events happened: as many of the transactions were applied as they say
abbrev pub namespace_at : Namespace → List Tx → History → Namespace
namespace_at start txs before = namespace_after start (take (length (applied_txids before)) txs)

-- ---- What was processed.

abbrev pub number_processed : ℕ → ℕ → Event → Option ℕ
number_processed dn block (Applied txid) = None
number_processed dn block (Processed d number b cause) = if (d == dn) && (b == block) then Some number else None

-- the numbers of the DataNode's items about the block that were processed, in order
abbrev pub numbers_processed : ℕ → ℕ → History → List ℕ
numbers_processed dn block events = filter_map (number_processed dn block) events

abbrev pub processes : ℕ → ℕ → ℕ → Event → Bool
processes dn number block (Applied txid) = false
processes dn number block (Processed d k b cause) = (d == dn) && (k == number) && (b == block)

-- how often the DataNode's item with this number about this block was processed
abbrev pub times_processed : ℕ → ℕ → ℕ → History → ℕ
times_processed dn number block [] = 0
times_processed dn number block (event ∷ events) = (if processes dn number block event then 1 else 0) + times_processed dn number block events

-- ---- Facts of each event.

-- a fact of each event and those before it, where other events happened before the list
abbrev pub EachAfter : (History → Event → Type 0) → History → History → Type 0
EachAfter P before [] = Unit {0}
EachAfter P before (event ∷ events) = P before event × EachAfter P (before ++ event ∷ []) events

-- a fact of each event of the history and those before it
abbrev pub EachEvent : (History → Event → Type 0) → History → Type 0
EachEvent P events = EachAfter P [] events
