-- A table through its calls, computed.
use Rattle.std.specs.Prelude.{◌≡◌, ℕ, Bool, true, false, List, [], ◌∷◌, map, Some, None, refl}
use Rattle.nn_types.specs.declared.block.Block.{Block}
use Rattle.nn_types.specs.declared.report.Kind.{Kind}
use Rattle.nn_types.specs.declared.report.Kind.TheVariants.{Receiving, Received}
use Rattle.nn_types.specs.declared.replica.Replica.{Replica}
use Rattle.nn_replicas.specs.Table.{Replicas}
use Rattle.nn_replicas.specs.Calls.{row_at, table_rows, replica_at, has_order, is_placed, replicas_at, orders_at, orders_of, total_in, safe_in, empty_table, room_made, comes_first}
use Rattle.nn_replicas.specs.Calls.{stamp_at, block_set, pair_placed, replica_put, replica_erased, due_told, block_retired, has_entry, is_idle_at, room_given_back}

-- ---- The blocks b and c, and reports of b by DataNodes 1, 2 and 3.

abbrev pub b : ℕ
b = 1073741825

abbrev pub c : ℕ
c = 1073741826

abbrev pub block_b : ℕ → Block
block_b stamp = record { id = b; stamp = stamp; len = 5 }

abbrev pub replica : Kind → ℕ → ℕ → Replica
replica kind stamp len = record { stamp = stamp; len = len; kind = kind }

abbrev pub named : Replicas
named = replica_put (block_set (empty_table 1) (block_b 1001) true 1) 1 b (replica Received 1001 5)

-- the generation stamp is raised, and then DataNode 1 reports again
abbrev pub raised : Replicas
raised = block_set (replica_put named 2 b (replica Receiving 1001 5)) (block_b 1002) true 3

abbrev pub reported : ℕ → Replicas
reported len = replica_put raised 1 b (replica Received 1002 len)

abbrev pub gone : Replicas
gone = block_retired (replica_put (reported 5) 3 b (replica Receiving 9223372036854775807 0)) b

totals : map total_in (empty_table 1 ∷ named ∷ raised ∷ reported 5 ∷ gone ∷ []) ≡ 0 ∷ 1 ∷ 1 ∷ 1 ∷ 0 ∷ []
totals = refl

safe_counts : map safe_in (empty_table 1 ∷ named ∷ raised ∷ reported 4 ∷ reported 5 ∷ gone ∷ []) ≡ 0 ∷ 1 ∷ 0 ∷ 0 ∷ 1 ∷ 0 ∷ []
safe_counts = refl

-- a block of an open file does not count, however many have it
open_files : map (λ t. total_in (block_set t (block_b 1001) false 1)) (empty_table 1 ∷ named ∷ []) ≡ 0 ∷ 0 ∷ []
open_files = refl

replicas : replicas_at raised b ≡ (1, replica Received 1001 5) ∷ (2, replica Receiving 1001 5) ∷ []
replicas = refl

orders : (orders_of raised ≡ []) × (orders_of gone ≡ (b, 1) ∷ (b, 2) ∷ (b, 3) ∷ []) × (replicas_at gone b ≡ []) × (row_at gone b ≡ None)
orders = (refl, refl, refl, refl)

-- what no file holds is ordered to be deleted, until it is
abbrev pub stray : Replicas
stray = replica_put gone 3 c (replica Received 1001 0)

strays : (has_order stray 3 c ≡ true) × (replica_at stray 3 c ≡ None) × (has_order (replica_erased stray 3 c) 3 c ≡ false) × (orders_of (replica_erased stray 3 c) ≡ orders_of gone)
strays = (refl, refl, refl, refl)

-- room alone is neither a replica nor an order, and stays until it is given back
abbrev pub placed : Replicas
placed = pair_placed gone 4 b

rooms : (orders_of placed ≡ orders_of gone) × (map (λ t. is_placed t 4 b) (gone ∷ placed ∷ replica_erased placed 4 b ∷ block_retired placed b ∷ []) ≡ false ∷ true ∷ true ∷ true ∷ [])
rooms = (refl, refl)

-- the orders at one block: those of a block that was deleted, of one that no file ever held, and of one that a file holds
orders_of_one_block : (orders_at gone b ≡ 1 ∷ 2 ∷ 3 ∷ []) × (map (orders_at stray) (b ∷ c ∷ []) ≡ (1 ∷ 2 ∷ 3 ∷ []) ∷ (3 ∷ []) ∷ [])
    × (map (λ t. orders_at t b) (empty_table 1 ∷ raised ∷ []) ≡ [] ∷ [] ∷ [])
orders_of_one_block = (refl, refl, refl)

-- room alone is no order, and an order that is done is none any more
orders_that_are_left : (orders_at placed b ≡ 1 ∷ 2 ∷ 3 ∷ []) × (orders_at (replica_erased placed 2 b) b ≡ 1 ∷ 3 ∷ [])
orders_that_are_left = (refl, refl)

-- room is given back, and with it the entry, once there is no row, no replica and no order: here the orders are done, one
-- after another
abbrev pub done : Replicas
done = replica_erased (replica_erased (replica_erased placed 1 b) 2 b) 3 b

abbrev idle_blocks : Replicas → List Bool
idle_blocks t = is_idle_at t b ∷ is_idle_at t c ∷ []

idle : map idle_blocks (raised ∷ placed ∷ replica_erased (replica_erased placed 1 b) 2 b ∷ done ∷ pair_placed stray 1 c ∷ pair_placed done 1 c ∷ [])
    ≡ (false ∷ true ∷ []) ∷ (false ∷ true ∷ []) ∷ (false ∷ true ∷ []) ∷ (true ∷ true ∷ []) ∷ (false ∷ false ∷ []) ∷ (true ∷ true ∷ []) ∷ []
idle = refl

entries : map (λ t. has_entry t b ∷ has_entry t c ∷ []) (done ∷ pair_placed done 1 c ∷ room_given_back (pair_placed done 1 c) b ∷ room_given_back done c ∷ [])
    ≡ (true ∷ false ∷ []) ∷ (true ∷ true ∷ []) ∷ (false ∷ true ∷ []) ∷ (true ∷ false ∷ []) ∷ []
entries = refl

-- room for a block is an entry and no more: where there is one nothing changes, and where there was none it can be given back
made : (map (λ t. has_entry t b ∷ has_entry t c ∷ []) (room_made (empty_table 1) c ∷ room_made done c ∷ []) ≡ (false ∷ true ∷ []) ∷ (true ∷ true ∷ []) ∷ [])
    × (room_made raised b ≡ raised) × (room_given_back (room_made raised c) c ≡ raised)
made = (refl, refl, refl)

given_back : (room_given_back done b ≡ empty_table 1) × (is_placed (room_given_back (pair_placed done 1 c) b) 1 c ≡ true) × (room_given_back done c ≡ done)
given_back = (refl, refl, refl)

-- an order, a row, or a row with a replica: nothing is given back
not_given_back : (room_given_back placed b ≡ placed)
    × (room_given_back (block_set (empty_table 1) (block_b 1001) false 1) b ≡ block_set (empty_table 1) (block_b 1001) false 1) × (room_given_back raised b ≡ raised)
not_given_back = (refl, refl, refl)

-- nor where a replica stands without a row
abbrev replica_alone : Replicas
replica_alone = record { min = 1; entries = (b, record { row = None; replication = 0; cells = (1, record { replica = Some (replica Received 1001 5); ordered = false }) ∷ [] }) ∷ [] }

not_given_back_alone : room_given_back replica_alone b ≡ replica_alone
not_given_back_alone = refl

-- what is told with the stamp of the row, or a lower one, is done at once
told_at_once : (due_told raised 1 b 1002 (Some (replica Received 1002 5)) ≡ reported 5) × (due_told raised 1 b 1001 None ≡ replica_erased raised 1 b)
told_at_once = (refl, refl)

-- where the row has a lower stamp, or where there is none, there is room alone
told_early : (due_told raised 3 b 1003 (Some (replica Received 1003 5)) ≡ pair_placed raised 3 b) × (due_told gone 4 b 1001 (Some (replica Received 1001 5)) ≡ placed)
told_early = (refl, refl)

stamps : map (λ t. stamp_at t b) (empty_table 1 ∷ raised ∷ gone ∷ []) ≡ None ∷ Some 1002 ∷ None ∷ []
stamps = refl

-- a block that is named again has its orders still, and no replicas
again : let t = block_set gone (block_b 1003) true 1 in (orders_of t ≡ orders_of gone) × (replicas_at t b ≡ []) × (replica_at (replica_put t 1 b (replica Received 1003 5)) 1 b ≡ Some (replica Received 1003 5))
again = (refl, refl, refl)

abbrev pub block : ℕ → ℕ → Block
block id len = record { id = id; stamp = 1001; len = len }

-- rows by ascending block id, of the blocks that files hold
rows : let t = block_set (block_set stray (block 1073741828 7) false 1) (block 1073741827 6) true 1 in
    (table_rows t ≡ (1073741827, record { block = block 1073741827 6; closed = true }) ∷ (1073741828, record { block = block 1073741828 7; closed = false }) ∷ [])
    × (table_rows stray ≡ [])
rows = (refl, refl)

-- ---- The order of orders, and what a deleted block leaves.

-- the lower block comes first, and of one block the lower DataNode; none comes before itself
in_turn : comes_first (b, 9) (c, 1) ∷ comes_first (c, 1) (b, 9) ∷ comes_first (b, 1) (b, 2) ∷ comes_first (b, 2) (b, 1) ∷ comes_first (b, 1) (b, 1) ∷ []
    ≡ true ∷ false ∷ true ∷ false ∷ false ∷ []
in_turn = refl

-- a block without a file wants no replicas
no_replication : map (λ e. e.1.replication) gone.entries ≡ 0 ∷ []
no_replication = refl
