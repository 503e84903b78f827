-- What is done to a block id, and how it counts.
use Rattle.std.specs.Prelude.{ℕ, Bool, true, false, not, ◌&&◌, ◌||◌, nat_le, List, [], map, Option, Some, None, is_some, unwrap_or, count_by, filter_map}
use Rattle.std.specs.Prelude.{if◌then◌else◌}
use Rattle.std.specs.List.{list_all}
use Rattle.std.specs.Option.{option_map}
use Rattle.std.specs.FinMap.Entries.{find, put}
use Rattle.std.specs.Ordering.{nat_cmp}
use Rattle.nn_types.specs.declared.block.Block.{Block}
use Rattle.nn_types.specs.declared.replica.Replica.{Replica}
use Rattle.nn_model.specs.Counts.{is_live}
use Rattle.nn_model.specs.declared.form.BlockRow.{BlockRow}
use Rattle.nn_replicas.specs.declared.entry.Cell.{Cell}
use Rattle.nn_replicas.specs.declared.entry.FileBlock.{FileBlock}
use Rattle.nn_replicas.specs.declared.entry.Told.{Told}
use Rattle.nn_replicas.specs.declared.entry.Told.TheVariants.{Room, Has, HasNone}
use Rattle.nn_replicas.specs.Table.{BlockEntry}

-- ---- One cell.

abbrev pub no_cell : Cell
no_cell = record { replica = None; ordered = false }

abbrev pub is_ordered : Option Cell → Bool
is_ordered None = false
is_ordered (Some c) = c.ordered

-- a report of a replica: a replica where a file holds the block, an order where none does
abbrev pub cell_put : Bool → Replica → Cell → Cell
cell_put named r c = if named then (record c { replica = Some r }) else (record c { ordered = true })

-- a report that it is gone: no replica where a file holds the block, no order where none does
abbrev pub cell_erased : Bool → Cell → Cell
cell_erased named c = if named then (record c { replica = None }) else (record c { ordered = false })

-- what is said of the DataNode, or is to be said
abbrev pub cell_told : Bool → Told → Cell → Cell
cell_told named Room c = c
cell_told named (Has r) c = cell_put named r c
cell_told named HasNone c = cell_erased named c

abbrev pub told_by : Option Replica → Told
told_by None = HasNone
told_by (Some r) = Has r

-- the block leaves its file: a replica becomes an order
abbrev pub cell_retired : Cell → Cell
cell_retired c = record { replica = None; ordered = c.ordered || is_some c.replica }

-- ---- One block id.

-- what the code keeps of the file that holds the block
abbrev pub row_of : Option FileBlock → Option BlockRow
row_of file = option_map (λ (f : FileBlock). record { block = f.block; closed = f.closed }) file

abbrev pub replication_of : Option FileBlock → ℕ
replication_of None = 0
replication_of (Some file) = file.replication

-- nothing is known of a block id
abbrev pub no_entry : BlockEntry
no_entry = record { row = None; replication = 0; cells = [] }

-- the block is named, by a file of this replication
abbrev pub entry_with_row : BlockEntry → BlockRow → ℕ → BlockEntry
entry_with_row e row replication = record e { row = Some row; replication = replication }

abbrev pub cell_of : BlockEntry → ℕ → Cell
cell_of e dn = unwrap_or (find nat_cmp dn e.cells) no_cell

abbrev pub has_cell : BlockEntry → ℕ → Bool
has_cell e dn = is_some (find nat_cmp dn e.cells)

abbrev pub with_cell : BlockEntry → ℕ → Cell → BlockEntry
with_cell e dn c = record e { cells = put nat_cmp dn c e.cells }

-- the DataNode is placed: it has a cell from now on
abbrev pub with_place : BlockEntry → ℕ → BlockEntry
with_place e dn = if has_cell e dn then e else with_cell e dn no_cell

-- the DataNode has a replica of the block
abbrev pub with_put : BlockEntry → ℕ → Replica → BlockEntry
with_put e dn r = with_cell e dn (cell_put (is_some e.row) r (cell_of e dn))

-- the DataNode has none
abbrev pub with_erased : BlockEntry → ℕ → BlockEntry
with_erased e dn = if has_cell e dn then with_cell e dn (cell_erased (is_some e.row) (cell_of e dn)) else e

-- the DataNode has this replica of the block, or is placed and has none
abbrev pub with_told : BlockEntry → ℕ → Option Replica → BlockEntry
with_told e dn (Some r) = with_put e dn r
with_told e dn None = with_erased (with_place e dn) dn

-- this is said of the DataNode, which has a cell from now on
abbrev pub with_word : BlockEntry → ℕ → Told → BlockEntry
with_word e dn told = with_cell e dn (cell_told (is_some e.row) told (cell_of e dn))

-- the block leaves its file
abbrev pub retired : BlockEntry → BlockEntry
retired e = record { row = None; replication = 0; cells = map (λ c. (c.0, cell_retired c.1)) e.cells }

-- ---- What is room alone.

-- the DataNode has neither a replica of the block nor an order
abbrev pub is_idle_cell : Cell → Bool
is_idle_cell c = not c.ordered && not (is_some c.replica)

-- the block has no row, and no DataNode has a replica of it or an order
abbrev pub is_idle : BlockEntry → Bool
is_idle e = not (is_some e.row) && list_all (λ c. is_idle_cell c.1) e.cells

-- ---- What it answers.

-- the generation stamp of the row
abbrev pub stamp_in : Option BlockRow → Option ℕ
stamp_in row = option_map (λ (r : BlockRow). r.block.stamp) row

abbrev replication_by_row : Option BlockRow → ℕ → ℕ
replication_by_row None replication = 0
replication_by_row (Some row) replication = replication

-- the replication of the file that holds the block, 0 where none does
abbrev pub replication_in : BlockEntry → ℕ
replication_in e = replication_by_row e.row e.replication

abbrev pub replica_in : ℕ × Cell → Option (ℕ × Replica)
replica_in c = option_map (λ r. (c.0, r)) c.1.replica

abbrev pub row_in : ℕ × BlockEntry → Option (ℕ × BlockRow)
row_in e = option_map (λ row. (e.0, row)) e.1.row

-- the ids of the blocks that files hold, and the rows
abbrev pub rows_in : List (ℕ × BlockEntry) → List (ℕ × BlockRow)
rows_in entries = filter_map row_in entries

-- the DataNodes with a replica of the block, and the replicas
abbrev pub replicas_in : List (ℕ × Cell) → List (ℕ × Replica)
replicas_in cells = filter_map replica_in cells

abbrev pub order_in : ℕ → ℕ × Cell → Option (ℕ × ℕ)
order_in id c = if c.1.ordered then Some (id, c.0) else None

-- the DataNodes that are to delete what they have of the block with this id
abbrev pub orders_in : ℕ → List (ℕ × Cell) → List (ℕ × ℕ)
orders_in id cells = filter_map (order_in id) cells

abbrev datanode_in : ℕ × Cell → Option ℕ
datanode_in c = if c.1.ordered then Some c.0 else None

-- the DataNodes that are to delete what they have of the block
abbrev pub ordered_in : List (ℕ × Cell) → List ℕ
ordered_in cells = filter_map datanode_in cells

-- ---- How it counts.

abbrev pub is_closed_row : Option BlockRow → Bool
is_closed_row None = false
is_closed_row (Some row) = row.closed

-- a block of a closed file
abbrev pub is_closed : BlockEntry → Bool
is_closed e = is_closed_row e.row

-- how many DataNodes have a live replica of the block
abbrev pub live_cells : Block → List (ℕ × Cell) → ℕ
live_cells b cells = count_by (λ c. is_live c.1.replica b) cells

abbrev pub is_safe_row : ℕ → Option BlockRow → List (ℕ × Cell) → Bool
is_safe_row min None cells = false
is_safe_row min (Some row) cells = row.closed && nat_le min (live_cells row.block cells)

-- a block of a closed file with at least so many live replicas
abbrev pub is_safe : ℕ → BlockEntry → Bool
is_safe min e = is_safe_row min e.row e.cells
