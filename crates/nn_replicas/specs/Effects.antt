-- What each call changes of the four things that the table is asked for: rows, replicas, orders and room.
use Rattle.std.specs.Prelude.{◌≡◌, ℕ, Bool, not, ◌&&◌, ◌||◌, ◌==◌, Option, Some, None, is_some, if◌then◌else◌}
use Rattle.nn_types.specs.declared.block.Block.{Block}
use Rattle.nn_types.specs.declared.replica.Replica.{Replica}
use Rattle.nn_replicas.specs.Table.{Replicas}
use Rattle.nn_replicas.specs.Calls.{row_at, replication_at, replica_at, has_order, is_placed, has_entry, is_idle_at}

abbrev pub has_row : Replicas → ℕ → Bool
has_row t id = is_some (row_at t id)

-- the DataNode d and the block b are this DataNode and this block
abbrev pub is_pair : ℕ → ℕ → ℕ → ℕ → Bool
is_pair dn id d b = (d == dn) && (b == id)

-- a file of this replication holds the block: its row alone changes
pub record Names (old : Replicas) (block : Block) (closed : Bool) (replication : ℕ) (new : Replicas) : Type 0 where
  pub rows : (b : ℕ) → row_at new b ≡ (if b == block.id then Some (record { block = block; closed = closed }) else row_at old b)
  pub replications : (b : ℕ) → replication_at new b ≡ (if b == block.id then replication else replication_at old b)
  pub replicas : (d b : ℕ) → replica_at new d b ≡ replica_at old d b
  pub orders : (d b : ℕ) → has_order new d b ≡ has_order old d b
  pub room : (d b : ℕ) → is_placed new d b ≡ is_placed old d b

-- there is an entry of the block, and nothing else changes
pub record MakesRoom (old : Replicas) (id : ℕ) (new : Replicas) : Type 0 where
  pub rows : (b : ℕ) → row_at new b ≡ row_at old b
  pub replications : (b : ℕ) → replication_at new b ≡ replication_at old b
  pub replicas : (d b : ℕ) → replica_at new d b ≡ replica_at old d b
  pub orders : (d b : ℕ) → has_order new d b ≡ has_order old d b
  pub room : (d b : ℕ) → is_placed new d b ≡ is_placed old d b
  pub entries : (b : ℕ) → has_entry new b ≡ ((b == id) || has_entry old b)

-- there is room for what a DataNode says of a block, and nothing else changes
pub record Places (old : Replicas) (dn id : ℕ) (new : Replicas) : Type 0 where
  pub rows : (b : ℕ) → row_at new b ≡ row_at old b
  pub replications : (b : ℕ) → replication_at new b ≡ replication_at old b
  pub replicas : (d b : ℕ) → replica_at new d b ≡ replica_at old d b
  pub orders : (d b : ℕ) → has_order new d b ≡ has_order old d b
  pub room : (d b : ℕ) → is_placed new d b ≡ (is_pair dn id d b || is_placed old d b)

-- a DataNode has this replica of a block, or none: where a file holds the block the replica is set, else the order
pub record SetsReplica (old : Replicas) (dn id : ℕ) (replica : Option Replica) (new : Replicas) : Type 0 where
  pub rows : (b : ℕ) → row_at new b ≡ row_at old b
  pub replications : (b : ℕ) → replication_at new b ≡ replication_at old b
  pub replicas : (d b : ℕ) → replica_at new d b ≡ (if is_pair dn id d b && has_row old id then replica else replica_at old d b)
  pub orders : (d b : ℕ) → has_order new d b ≡ (if is_pair dn id d b && not (has_row old id) then is_some replica else has_order old d b)
  pub room : (d b : ℕ) → is_placed new d b ≡ ((is_pair dn id d b && is_some replica) || is_placed old d b)

-- no file holds the block any more: its replicas become orders
pub record Retires (old : Replicas) (id : ℕ) (new : Replicas) : Type 0 where
  pub rows : (b : ℕ) → row_at new b ≡ (if b == id then None else row_at old b)
  pub replications : (b : ℕ) → replication_at new b ≡ (if b == id then 0 else replication_at old b)
  pub replicas : (d b : ℕ) → replica_at new d b ≡ (if b == id then None else replica_at old d b)
  pub orders : (d b : ℕ) → has_order new d b ≡ (has_order old d b || ((b == id) && is_some (replica_at old d b)))
  pub room : (d b : ℕ) → is_placed new d b ≡ is_placed old d b

-- where the block has no row, no replica and no order, its entry goes with all its room, and nothing else changes
pub record GivesBack (old : Replicas) (id : ℕ) (new : Replicas) : Type 0 where
  pub rows : (b : ℕ) → row_at new b ≡ row_at old b
  pub replications : (b : ℕ) → replication_at new b ≡ replication_at old b
  pub replicas : (d b : ℕ) → replica_at new d b ≡ replica_at old d b
  pub orders : (d b : ℕ) → has_order new d b ≡ has_order old d b
  pub room : (d b : ℕ) → is_placed new d b ≡ (not ((b == id) && is_idle_at old id) && is_placed old d b)
  pub entries : (b : ℕ) → has_entry new b ≡ (not ((b == id) && is_idle_at old id) && has_entry old b)
