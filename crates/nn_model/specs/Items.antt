-- What messages say, one block at a time. A full report tells all that its DataNode has, so its end revokes what the DataNode
-- told before the report and left out of it. The result is a list of items: each is received, being received or deleted.
use Rattle.std.specs.Prelude.{ℕ, Bool, true, false, List, [], ◌∷◌, ◌++◌, map, filter, filter_map, Option, Some, None, option_map, nat_lt, ◌==◌, if◌then◌else◌}
use Rattle.std.specs.List.{last_or}
use Rattle.std.specs.Map.{remove_entry}
use Rattle.std.specs.BTreeMap.{insert_entry, is_at}
use Rattle.std.specs.Ordering.{nat_cmp}
use Rattle.nn_types.specs.declared.report.Message.{Message}
use Rattle.nn_types.specs.declared.report.Kind.{Kind}
use Rattle.nn_types.specs.declared.report.Kind.TheVariants.{Receiving, Received, Deleted, Begin, Listed, Finish}
use Rattle.nn_model.specs.Lanes.{Lanes}

-- ---- The blocks of items.

-- an id in its place among ascending ids, where it is not there yet
abbrev pub with_once : ℕ → List ℕ → List ℕ
with_once id [] = id ∷ []
with_once id (i ∷ ids) = if nat_lt id i then id ∷ i ∷ ids else if id == i then i ∷ ids else i ∷ with_once id ids

-- the same ids, ascending, each once
abbrev pub each_once : List ℕ → List ℕ
each_once [] = []
each_once (id ∷ ids) = with_once id (each_once ids)

-- the last item about the block
abbrev pub last_about : List Message → ℕ → Option Message
last_about items id = last_or None (filter (λ i. i.block == id) items)

-- ---- What a DataNode has.

abbrev pub is_deleted : Kind → Bool
is_deleted Deleted = true
is_deleted Receiving = false
is_deleted Received = false
is_deleted Begin = false
is_deleted Listed = false
is_deleted Finish = false

-- the number of the last item, unless that is a delete
abbrev pub number_unless_deleted : Option Message → Option ℕ
number_unless_deleted None = None
number_unless_deleted (Some i) = if is_deleted i.kind then None else Some i.number

abbrev pub entry_unless_deleted : List Message → ℕ → Option (ℕ × ℕ)
entry_unless_deleted items id = option_map (λ number. (id, number)) (number_unless_deleted (last_about items id))

-- what the DataNode has by its last item about each block: the blocks, ascending, each with that item's number
abbrev pub numbered_blocks : List Message → List (ℕ × ℕ)
numbered_blocks items = filter_map (entry_unless_deleted items) (each_once (map (λ i. i.block) items))

-- what is known of a DataNode: what it has, and the number of the begin of the report that is open
pub record NodeState : Type 0 where
  pub has : List (ℕ × ℕ)
  pub begun : Option ℕ

abbrev pub nothing_known : NodeState
nothing_known = record { has = []; begun = None }

-- ---- The items of one more message.

-- the blocks that the report with this begin left out, ascending: the last item about them came before it
abbrev pub left_out : ℕ → List (ℕ × ℕ) → List ℕ
left_out begin has = map (λ (had : ℕ × ℕ). had.0) (filter (λ (had : ℕ × ℕ). nat_lt had.1 begin) has)

-- the end of a report revokes this block
abbrev pub revoked : Message → ℕ → Message
revoked finish id = record finish { block = id; stamp = 0; len = 0; kind = Deleted }

-- the items of the end of a report: none where no report is open
abbrev pub finished : Option ℕ → List (ℕ × ℕ) → Message → List Message
finished None has m = []
finished (Some begin) has m = map (revoked m) (left_out begin has)

abbrev pub added_as : Kind → NodeState → Message → List Message
added_as Receiving had m = m ∷ []
added_as Received had m = m ∷ []
added_as Deleted had m = m ∷ []
added_as Begin had m = []
added_as Listed had m = (record m { kind = Received }) ∷ []
added_as Finish had m = finished had.begun had.has m

-- the items that a message adds
abbrev pub added : NodeState → Message → List Message
added had m = added_as m.kind had m

-- the begin of the report that is open after a message
abbrev pub begun_after : Kind → Option ℕ → ℕ → Option ℕ
begun_after Receiving begun number = begun
begun_after Received begun number = begun
begun_after Deleted begun number = begun
begun_after Begin begun number = Some number
begun_after Listed begun number = begun
begun_after Finish begun number = None

-- ---- A lane.

-- its items so far, and the begin of the report that is open
pub record LaneItems : Type 0 where
  pub items : List Message
  pub begun : Option ℕ

abbrev pub node_state : LaneItems → NodeState
node_state t = record { has = numbered_blocks t.items; begun = t.begun }

abbrev pub lane_items_after : LaneItems → Message → LaneItems
lane_items_after t m = record { items = t.items ++ added (node_state t) m; begun = begun_after m.kind t.begun m.number }

-- messages, one after another
abbrev pub lane_items_from : LaneItems → List Message → LaneItems
lane_items_from t [] = t
lane_items_from t (m ∷ messages) = lane_items_from (lane_items_after t m) messages

abbrev pub lane_items : List Message → LaneItems
lane_items messages = lane_items_from (record { items = []; begun = None }) messages

-- the items of messages
abbrev pub items_of : List Message → List Message
items_of messages = (lane_items messages).items

-- the items of lanes
abbrev pub items : Lanes → Lanes
items lanes dn = items_of (lanes dn)

-- ---- What is known after one more, from what was known before.

-- what the DataNode has after one more item: the item's block under its number, or without that block
abbrev pub with_item : List (ℕ × ℕ) → Message → List (ℕ × ℕ)
with_item has i = if is_deleted i.kind then remove_entry (is_at (nat_cmp i.block)) has else insert_entry nat_cmp has i.block i.number

abbrev pub with_items : List (ℕ × ℕ) → List Message → List (ℕ × ℕ)
with_items has [] = has
with_items has (i ∷ items) = with_items (with_item has i) items

-- what is known after a message
abbrev pub node_state_after : NodeState → Message → NodeState
node_state_after had m = record { has = with_items had.has (added had m); begun = begun_after m.kind had.begun m.number }
