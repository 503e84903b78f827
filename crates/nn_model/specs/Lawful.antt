-- Which histories are lawful for a log and lanes, and which of them are whole.
use Rattle.std.specs.Prelude.{◌≡◌, ℕ, Bool, true, false, ◌&&◌, List, map, IfSome, nat_le, ◌==◌}
use Rattle.std.specs.List.{list_any}
use Rattle.nn_types.specs.declared.report.Message.{Message}
use Rattle.nn_types.specs.declared.event.Event.{Event}
use Rattle.nn_types.specs.declared.event.Event.TheVariants.{Applied, Processed}
use Rattle.nn_types.specs.declared.event.Cause.TheVariants.{Due, Flush}
use Rattle.nn_types.specs.declared.tx.Tx.{Tx}
use Rattle.nn_model.specs.Namespace.{Namespace}
use Rattle.nn_model.specs.Status.{due_in}
use Rattle.nn_model.specs.WellFormed.{Includes}
use Rattle.nn_model.specs.Log.{namespace_after}
use Rattle.nn_model.specs.Lanes.{Lanes, message_of, IsSent}
use Rattle.nn_model.specs.Held.{IsHeld, IsFree}
use Rattle.nn_model.specs.History.{History, EachEvent, applied_txids, namespace_at, IsBeforeFlush, processed}

-- ---- What a lawful history says of one event, where `before` are the events before it.

-- what was processed is an item that was sent: its DataNode, its number and its block are the event's
abbrev pub NamesItem : Lanes → History → Event → Type 0
NamesItem lanes before (Applied txid) = Unit {0}
NamesItem lanes before (Processed dn number block cause) =
    (m : Message) × IsSent lanes m × (m.dn ≡ dn) × (m.number ≡ number) × (m.block ≡ block)

-- the event processes an item of this DataNode about this block, with this number or a later one
abbrev pub processes_from : ℕ → ℕ → ℕ → Event → Bool
processes_from dn block number (Applied txid) = false
processes_from dn block number (Processed d k b cause) = (d == dn) && (b == block) && nat_le number k

-- no item of the same DataNode about the same block was processed before with the same number or a later one
abbrev pub NumberRises : History → Event → Type 0
NumberRises before (Applied txid) = Unit {0}
NumberRises before (Processed dn number block cause) = list_any (processes_from dn block number) before ≡ false

-- what was processed as due was not held in the namespace of the moment
abbrev pub WaitedItsTurn : Namespace → List Tx → Lanes → History → Event → Type 0
WaitedItsTurn start txs lanes before (Applied txid) = Unit {0}
WaitedItsTurn start txs lanes before (Processed dn number block Due) =
    IfSome (message_of lanes dn number block) (IsFree (namespace_at start txs before) lanes)
WaitedItsTurn start txs lanes before (Processed dn number block Flush) = Unit {0}

-- what was flushed is held at the end of the log
abbrev pub FlushesHeld : Namespace → List Tx → Lanes → History → Event → Type 0
FlushesHeld start txs lanes before (Applied txid) = Unit {0}
FlushesHeld start txs lanes before (Processed dn number block Due) = Unit {0}
FlushesHeld start txs lanes before (Processed dn number block Flush) =
    IfSome (message_of lanes dn number block) (IsHeld (namespace_after start txs) lanes)

-- what is no flush comes before the flush
abbrev pub NoFlushBefore : History → Event → Type 0
NoFlushBefore before (Applied txid) = IsBeforeFlush before
NoFlushBefore before (Processed dn number block Due) = IsBeforeFlush before
NoFlushBefore before (Processed dn number block Flush) = Unit {0}

-- ---- Histories.

-- lawful, where this rule says when an item may be processed as due
pub record IsLawfulBy (rule : History → Event → Type 0) (start : Namespace) (txs : List Tx) (lanes : Lanes) (events : History) : Type 0 where
  -- the transactions were applied in order, each once
  pub applied_in_order : applied_txids events ≡ map (λ tx. tx.txid) txs
  -- only items that were sent were processed
  pub sent : EachEvent (NamesItem lanes) events
  -- of one DataNode about one block each was processed once, in sending order
  pub in_sending_order : EachEvent NumberRises events
  -- what was processed as due kept the rule
  pub waited : EachEvent rule events
  -- the flush came after all else
  pub flush_last : EachEvent NoFlushBefore events
  -- and took only what is held at the end of the log
  pub flush_held : EachEvent (FlushesHeld start txs lanes) events
  -- what is not held at the end of the log was processed as due
  pub none_forgotten : (m : Message) → IsSent lanes m → IsFree (namespace_after start txs) lanes m → Includes events (processed Due m)

-- none was processed as due while it was held: it and each earlier one of its DataNode about its block were due
abbrev pub IsLawful : Namespace → List Tx → Lanes → History → Type 0
IsLawful start txs lanes events = IsLawfulBy (WaitedItsTurn start txs lanes) start txs lanes events

-- and what is held at the end of the log was flushed
abbrev pub IsWhole : Namespace → List Tx → Lanes → History → Type 0
IsWhole start txs lanes events =
    (m : Message) → IsSent lanes m → IsHeld (namespace_after start txs) lanes m → Includes events (processed Flush m)

-- ---- A looser reading, which asks of an item alone that it was due, whatever waited before it.

-- what was processed as due was due by itself at the moment
abbrev pub WasDueItself : Namespace → List Tx → Lanes → History → Event → Type 0
WasDueItself start txs lanes before (Applied txid) = Unit {0}
WasDueItself start txs lanes before (Processed dn number block Due) =
    IfSome (message_of lanes dn number block) (λ m. due_in (namespace_at start txs before) m.block m.stamp ≡ true)
WasDueItself start txs lanes before (Processed dn number block Flush) = Unit {0}

-- lawful in the looser reading. It differs in the rule alone, and on whole histories it says the same
abbrev pub IsLooselyLawful : Namespace → List Tx → Lanes → History → Type 0
IsLooselyLawful start txs lanes events = IsLawfulBy (WasDueItself start txs lanes) start txs lanes events
