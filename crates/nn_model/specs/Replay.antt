-- The sequential standby, a machine with no queues: what the events of a history do, one after another.
use Rattle.std.specs.Prelude.{ℕ, Bool, false, not, ◌&&◌, ◌||◌, List, [], ◌∷◌, Option, Some, None, is_some, find, ◌==◌, if◌then◌else◌}
use Rattle.nn_types.specs.declared.report.Message.{Message}
use Rattle.nn_types.specs.declared.report.Kind.{Kind}
use Rattle.nn_types.specs.declared.report.Kind.TheVariants.{Receiving, Received, Deleted, Begin, Listed, Finish}
use Rattle.nn_types.specs.declared.event.Event.{Event}
use Rattle.nn_types.specs.declared.event.Event.TheVariants.{Applied, Processed}
use Rattle.nn_types.specs.declared.tx.Tx.{Tx}
use Rattle.nn_types.specs.declared.replica.Replica.{Replica}
use Rattle.nn_model.specs.Namespace.{Namespace}
use Rattle.nn_model.specs.Apply.{effect}
use Rattle.nn_model.specs.Status.{block_at}
use Rattle.nn_model.specs.Lanes.{Lanes, message_of}
use Rattle.nn_model.specs.History.{History}

-- its namespace, and for each DataNode and block the replica, and whether the DataNode is ordered to delete what it has
pub record Sequential : Type 0 where
  pub namespace : Namespace
  pub replica : ℕ → ℕ → Option Replica
  pub has_order : ℕ → ℕ → Bool

-- before the first event: no replicas, and no orders
abbrev pub starting_at : Namespace → Sequential
starting_at n = record { namespace = n; replica = λ dn id. None; has_order = λ dn id. false }

-- whether a file holds the block
abbrev pub is_named : Namespace → ℕ → Bool
is_named n id = is_some (block_at n id)

-- ---- An edit.

-- whether the block leaves the namespace
abbrev pub leaves : Namespace → Namespace → ℕ → Bool
leaves old new id = is_named old id && not (is_named new id)

-- the replicas of blocks that leave become orders
abbrev pub after_edit : Sequential → Namespace → Sequential
after_edit s new = record {
  namespace = new;
  replica = λ dn id. if leaves s.namespace new id then None else s.replica dn id;
  has_order = λ dn id. s.has_order dn id || (leaves s.namespace new id && is_some (s.replica dn id));
}

-- ---- An item.

abbrev pub reported_as : Kind → Message → Option Replica
reported_as Receiving m = Some (record { stamp = m.stamp; len = m.len; kind = m.kind })
reported_as Received m = Some (record { stamp = m.stamp; len = m.len; kind = m.kind })
reported_as Deleted m = None
reported_as Begin m = None
reported_as Listed m = None
reported_as Finish m = None

-- the replica that the DataNode has by this item: none where it deleted it
abbrev pub reported : Message → Option Replica
reported m = reported_as m.kind m

-- the look-ups with this value for one DataNode and block
abbrev pub set_at : {A : Type 0} → ℕ → ℕ → A → (ℕ → ℕ → A) → ℕ → ℕ → A
set_at d b value old dn id = if (dn == d) && (id == b) then value else old dn id

-- the replica is set or erased where a file holds the block, else the order
abbrev pub after_item : Sequential → Message → Sequential
after_item s m = record {
  namespace = s.namespace;
  replica = if is_named s.namespace m.block then set_at m.dn m.block (reported m) s.replica else s.replica;
  has_order = if is_named s.namespace m.block then s.has_order else set_at m.dn m.block (is_some (reported m)) s.has_order;
}

-- ---- A history.

abbrev pub apply_found : Sequential → Option Tx → Sequential
apply_found s None = s
apply_found s (Some tx) = after_edit s (effect s.namespace tx.edit)

abbrev pub process_found : Sequential → Option Message → Sequential
process_found s None = s
process_found s (Some m) = after_item s m

-- an event: its transaction by its txid, its item by its DataNode, number and block
abbrev pub after_event : List Tx → Lanes → Sequential → Event → Sequential
after_event txs lanes s (Applied txid) = apply_found s (find (λ tx. tx.txid == txid) txs)
after_event txs lanes s (Processed dn number block cause) = process_found s (message_of lanes dn number block)

abbrev pub replay_from : List Tx → Lanes → Sequential → History → Sequential
replay_from txs lanes s [] = s
replay_from txs lanes s (event ∷ events) = replay_from txs lanes (after_event txs lanes s event) events

-- the sequential standby after a history
abbrev pub replay : Namespace → List Tx → Lanes → History → Sequential
replay start txs lanes events = replay_from txs lanes (starting_at start) events
