-- What the table answers after each call.
use Rattle.std.proofs.Common.{◌≡◌, ℕ, Bool, true, false, cond, List, [], ◌∷◌, map, Option, Some, None, is_some, refl, sym, ap, ◌∙◌, arith, nat_cmp, nat_lt, ltb-true, eqb-true}
use Rattle.std.specs.Prelude.{◌&&◌, ◌||◌, ◌==◌, not, unwrap_or, option_and_then}
use Rattle.std.specs.Option.{option_map}
use Rattle.std.specs.Ordering.{is_eq}
use Rattle.std.specs.declared.cmp.Ordering.TheVariants.{Less, Equal, Greater}
use Rattle.std.specs.Cmp.{nat_cmp_total}
use Rattle.std.specs.FinMap.Entries.{find, put, find-put, is_sorted}
use Rattle.nn_types.specs.declared.block.Block.{Block}
use Rattle.nn_types.specs.declared.replica.Replica.{Replica}
use Rattle.nn_model.specs.declared.form.BlockRow.{BlockRow}
use Rattle.nn_replicas.specs.declared.entry.Cell.{Cell}
use Rattle.nn_replicas.specs.Table.{BlockEntry, Replicas}
use Rattle.nn_replicas.specs.Entry.{is_ordered, no_cell, no_entry, cell_put, cell_erased, cell_retired, cell_of, has_cell, entry_with_row, with_cell, with_place, with_put, with_erased, retired, replication_in}
use Rattle.nn_replicas.specs.Calls.{entry_at, entry_or_none, row_at, replication_at, cell_at, replica_at, has_order, is_placed, with_entry, changed_from, changed_at, has_entry, empty_table, room_made, block_set, pair_placed, replica_put, replica_erased, block_retired}
use Rattle.nn_replicas.specs.Order.{IsSortedTable}
use Rattle.nn_replicas.proofs.Entries.{put_sorted}
use Rattle.nn_replicas.proofs.Written.{sorted_retired}
use Rattle.nn_replicas.specs.Effects.{has_row, is_pair, MakesRoom, Names, Places, SetsReplica, Retires}

-- ---- look-ups in entries

pub eq_is : (x y : ℕ) → is_eq (nat_cmp x y) ≡ (x == y)
eq_is x y = cases (nat_lt x y) (x == y) refl refl
  where
    cases : (below same : Bool) → nat_lt x y ≡ below → (x == y) ≡ same → is_eq (cond below Less (cond same Equal Greater)) ≡ same
    cases true true l e = absurd (let a = ltb-true x y l in let b = eqb-true x y e in omega (arith, a, b))
    cases true false l e = refl
    cases false true l e = refl
    cases false false l e = refl

pub find_put : {X : Type 0} (q k : ℕ) (v : X) (es : List (ℕ × X)) → find nat_cmp q (put nat_cmp k v es) ≡ cond (q == k) (Some v) (find nat_cmp q es)
find_put q k v es = find-put nat_cmp nat_cmp_total q k v es ∙ ap (λ b. cond b (Some v) (find nat_cmp q es)) (eq_is q k)

through : {X Y : Type 0} (f : X → Y) (b : Bool) (x y : X) → f (cond b x y) ≡ cond b (f x) (f y)
through f true x y = refl
through f false x y = refl

-- what holds of a block id holds of itself
itself : {X : Type 0} (f : ℕ → X) (id b : ℕ) → cond (b == id) (f id) (f b) ≡ f b
itself f id b = cases (b == id) refl
  where
    cases : (same : Bool) → (b == id) ≡ same → cond same (f id) (f b) ≡ f b
    cases true e = ap f (sym (eqb-true b id e))
    cases false e = refl

both_itself : {X : Type 0} (f : ℕ → ℕ → X) (dn id d b : ℕ) → cond (is_pair dn id d b) (f dn id) (f d b) ≡ f d b
both_itself f dn id d b = cases (d == dn) refl
  where
    cases : (same : Bool) → (d == dn) ≡ same → cond (same && (b == id)) (f dn id) (f d b) ≡ f d b
    cases true e = ap (λ x. cond (b == id) (f x id) (f d b)) (sym (eqb-true d dn e)) ∙ itself (f d) id b
    cases false e = refl

module _ {X : Type 0} (f : BlockEntry → X) where
  -- what is asked of a block id after its entry was set
  asked : (t : Replicas) (id : ℕ) (e : BlockEntry) (b : ℕ) → f (entry_or_none (with_entry t id e) b) ≡ cond (b == id) (f e) (f (entry_or_none t b))
  asked t id e b = ap (λ o. f (unwrap_or o no_entry)) (find_put b id e t.entries) ∙ through (λ o. f (unwrap_or o no_entry)) (b == id) (Some e) (entry_at t b)

  -- and where the change leaves it
  kept : (t : Replicas) (id : ℕ) (e : BlockEntry) → f e ≡ f (entry_or_none t id) → (b : ℕ) → f (entry_or_none (with_entry t id e) b) ≡ f (entry_or_none t b)
  kept t id e h b = asked t id e b ∙ ap (λ x. cond (b == id) x (f (entry_or_none t b))) h ∙ itself (λ x. f (entry_or_none t x)) id b

  kept_change : (t : Replicas) (id : ℕ) (g : BlockEntry → BlockEntry) → ((e : BlockEntry) → f (g e) ≡ f e) → (b : ℕ) → f (entry_or_none (changed_at t id g) b) ≡ f (entry_or_none t b)
  kept_change t id g h b = cases (entry_at t id) refl
    where
      cases : (o : Option BlockEntry) → entry_at t id ≡ o → f (entry_or_none (changed_from t id g o) b) ≡ f (entry_or_none t b)
      cases None e = refl
      cases (Some v) e = kept t id (g v) (h v ∙ ap (λ o. f (unwrap_or o no_entry)) (sym e)) b

-- a DataNode's cell after a cell was set
cell_with : (t : Replicas) (dn id : ℕ) (c : Cell) (d b : ℕ) → cell_at (with_entry t id (with_cell (entry_or_none t id) dn c)) d b ≡ cond (is_pair dn id d b) (Some c) (cell_at t d b)
cell_with t dn id c d b =
    asked (λ e. find nat_cmp d e.cells) t id (with_cell (entry_or_none t id) dn c) b
    ∙ ap (λ o. cond (b == id) o (cell_at t d b)) (find_put d dn c (entry_or_none t id).cells)
    ∙ cases (d == dn)
  where
    cases : (same : Bool) → cond (b == id) (cond same (Some c) (cell_at t d id)) (cell_at t d b) ≡ cond (same && (b == id)) (Some c) (cell_at t d b)
    cases true = refl
    cases false = itself (cell_at t d) id b

-- ---- each call, by the cells

cell_after_put : (t : Replicas) (dn id : ℕ) (r : Replica) (d b : ℕ) → cell_at (replica_put t dn id r) d b ≡ cond (is_pair dn id d b) (Some (cell_put (has_row t id) r (unwrap_or (cell_at t dn id) no_cell))) (cell_at t d b)
cell_after_put t dn id r d b = cell_with t dn id (cell_put (has_row t id) r (unwrap_or (cell_at t dn id) no_cell)) d b

cell_after_place : (t : Replicas) (dn id : ℕ) (d b : ℕ) → cell_at (pair_placed t dn id) d b ≡ cond (is_pair dn id d b) (Some (unwrap_or (cell_at t dn id) no_cell)) (cell_at t d b)
cell_after_place t dn id d b = cases (cell_at t dn id) refl
  where
    cases : (o : Option Cell) → cell_at t dn id ≡ o
        → cell_at (with_entry t id (cond (is_some o) (entry_or_none t id) (with_cell (entry_or_none t id) dn no_cell))) d b ≡ cond (is_pair dn id d b) (Some (unwrap_or o no_cell)) (cell_at t d b)
    cases None e = cell_with t dn id no_cell d b
    cases (Some c) e = kept (λ x. find nat_cmp d x.cells) t id (entry_or_none t id) refl b ∙ sym (both_itself (cell_at t) dn id d b) ∙ ap (λ o. cond (is_pair dn id d b) o (cell_at t d b)) e

cell_after_erase : (t : Replicas) (dn id : ℕ) (d b : ℕ) → cell_at (replica_erased t dn id) d b ≡ cond (is_pair dn id d b) (option_map (cell_erased (has_row t id)) (cell_at t dn id)) (cell_at t d b)
cell_after_erase t dn id d b = cases (entry_at t id) refl
  where
    same : (o : Option Cell) → cell_at t dn id ≡ o → cell_at t d b ≡ cond (is_pair dn id d b) o (cell_at t d b)
    same o e = sym (both_itself (cell_at t) dn id d b) ∙ ap (λ o. cond (is_pair dn id d b) o (cell_at t d b)) e

    known : (o : Option Cell) → cell_at t dn id ≡ o
        → cell_at (with_entry t id (cond (is_some o) (with_cell (entry_or_none t id) dn (cell_erased (has_row t id) (unwrap_or o no_cell))) (entry_or_none t id))) d b
        ≡ cond (is_pair dn id d b) (option_map (cell_erased (has_row t id)) o) (cell_at t d b)
    known None e = kept (λ x. find nat_cmp d x.cells) t id (entry_or_none t id) refl b ∙ same None e
    known (Some c) e = cell_with t dn id (cell_erased (has_row t id) c) d b

    cases : (o : Option BlockEntry) → entry_at t id ≡ o → cell_at (changed_from t id (λ e. with_erased e dn) o) d b ≡ cond (is_pair dn id d b) (option_map (cell_erased (has_row t id)) (cell_at t dn id)) (cell_at t d b)
    cases None e =
        let none : cell_at t dn id ≡ None = ap (λ o. find nat_cmp dn (unwrap_or o no_entry).cells) e in
        same None none ∙ ap (λ o. cond (is_pair dn id d b) (option_map (cell_erased (has_row t id)) o) (cell_at t d b)) (sym none)
    cases (Some v) e =
        let is : v ≡ entry_or_none t id = ap (λ o. unwrap_or o no_entry) (sym e) in
        ap (λ x. cell_at (with_entry t id (with_erased x dn)) d b) is ∙ known (cell_at t dn id) refl

find_retired : (d : ℕ) (xs : List (ℕ × Cell)) → find nat_cmp d (map (λ c. (c.0, cell_retired c.1)) xs) ≡ option_map cell_retired (find nat_cmp d xs)
find_retired d [] = refl
find_retired d (x ∷ xs) =
    elim (is_eq (nat_cmp d x.0)) as (λ s. cond s (Some (cell_retired x.1)) (find nat_cmp d (map (λ c. (c.0, cell_retired c.1)) xs)) ≡ option_map cell_retired (cond s (Some x.1) (find nat_cmp d xs))) [ true ↦ refl | false ↦ find_retired d xs ]

cell_after_retire : (t : Replicas) (id d b : ℕ) → cell_at (block_retired t id) d b ≡ cond (b == id) (option_map cell_retired (cell_at t d id)) (cell_at t d b)
cell_after_retire t id d b = cases (entry_at t id) refl
  where
    cases : (o : Option BlockEntry) → entry_at t id ≡ o → cell_at (changed_from t id retired o) d b ≡ cond (b == id) (option_map cell_retired (cell_at t d id)) (cell_at t d b)
    cases None e =
        let none : cell_at t d id ≡ None = ap (λ o. find nat_cmp d (unwrap_or o no_entry).cells) e in
        sym (itself (cell_at t d) id b) ∙ ap (λ o. cond (b == id) o (cell_at t d b)) none ∙ ap (λ o. cond (b == id) (option_map cell_retired o) (cell_at t d b)) (sym none)
    cases (Some v) e =
        asked (λ x. find nat_cmp d x.cells) t id (retired v) b ∙ ap (λ o. cond (b == id) o (cell_at t d b)) (find_retired d v.cells)
        ∙ ap (λ o. cond (b == id) (option_map cell_retired (find nat_cmp d (unwrap_or o no_entry).cells)) (cell_at t d b)) (sym e)

row_after_retire : (t : Replicas) (id b : ℕ) → row_at (block_retired t id) b ≡ cond (b == id) None (row_at t b)
row_after_retire t id b = cases (entry_at t id) refl
  where
    cases : (o : Option BlockEntry) → entry_at t id ≡ o → row_at (changed_from t id retired o) b ≡ cond (b == id) None (row_at t b)
    cases None e = sym (itself (row_at t) id b) ∙ ap (λ o. cond (b == id) (unwrap_or o no_entry).row (row_at t b)) e
    cases (Some v) e = asked (λ x. x.row) t id (retired v) b

replication_after_retire : (t : Replicas) (id b : ℕ) → replication_at (block_retired t id) b ≡ cond (b == id) 0 (replication_at t b)
replication_after_retire t id b = cases (entry_at t id) refl
  where
    cases : (o : Option BlockEntry) → entry_at t id ≡ o → replication_at (changed_from t id retired o) b ≡ cond (b == id) 0 (replication_at t b)
    cases None e = sym (itself (replication_at t) id b) ∙ ap (λ o. cond (b == id) (replication_in (unwrap_or o no_entry)) (replication_at t b)) e
    cases (Some v) e = asked replication_in t id (retired v) b

-- ---- what a cell answers

abbrev replica_of : Option Cell → Option Replica
replica_of o = option_and_then (λ c. c.replica) o

filled_replica : (o : Option Cell) → (unwrap_or o no_cell).replica ≡ replica_of o
filled_replica None = refl
filled_replica (Some c) = refl

filled_order : (o : Option Cell) → (unwrap_or o no_cell).ordered ≡ is_ordered o
filled_order None = refl
filled_order (Some c) = refl

put_replica : (named : Bool) (r : Replica) (c : Cell) → (cell_put named r c).replica ≡ cond named (Some r) c.replica
put_replica true r c = refl
put_replica false r c = refl

put_order : (named : Bool) (r : Replica) (c : Cell) → (cell_put named r c).ordered ≡ cond named c.ordered true
put_order true r c = refl
put_order false r c = refl

erased_replica : (named : Bool) (o : Option Cell) → replica_of (option_map (cell_erased named) o) ≡ cond named None (replica_of o)
erased_replica true None = refl
erased_replica false None = refl
erased_replica true (Some c) = refl
erased_replica false (Some c) = refl

erased_order : (named : Bool) (o : Option Cell) → is_ordered (option_map (cell_erased named) o) ≡ cond named (is_ordered o) false
erased_order true None = refl
erased_order false None = refl
erased_order true (Some c) = refl
erased_order false (Some c) = refl

mapped_there : (f : Cell → Cell) (o : Option Cell) → is_some (option_map f o) ≡ is_some o
mapped_there f None = refl
mapped_there f (Some c) = refl

retired_replica : (o : Option Cell) → replica_of (option_map cell_retired o) ≡ None
retired_replica None = refl
retired_replica (Some c) = refl

retired_order : (o : Option Cell) → is_ordered (option_map cell_retired o) ≡ (is_ordered o || is_some (replica_of o))
retired_order None = refl
retired_order (Some c) = refl

where_named : {X : Type 0} (pair named : Bool) (x y z : X) → cond pair z y ≡ y → cond pair (cond named x z) y ≡ cond (pair && named) x y
where_named true true x y z h = refl
where_named true false x y z h = h
where_named false named x y z h = refl

where_not_named : {X : Type 0} (pair named : Bool) (x y z : X) → cond pair z y ≡ y → cond pair (cond named z x) y ≡ cond (pair && not named) x y
where_not_named true true x y z h = h
where_not_named true false x y z h = refl
where_not_named false named x y z h = refl

or_by : (a b : Bool) → cond a true b ≡ (a || b)
or_by true b = refl
or_by false b = refl

or_with_true : (a b : Bool) → cond a true b ≡ ((a && true) || b)
or_with_true true b = refl
or_with_true false b = refl

or_with_false : (a b : Bool) → b ≡ ((a && false) || b)
or_with_false true b = refl
or_with_false false b = refl

or_nothing : (a : Bool) → a ≡ (a || false)
or_nothing true = refl
or_nothing false = refl

placed_row : (e : BlockEntry) (dn : ℕ) → (with_place e dn).row ≡ e.row
placed_row e dn = elim (has_cell e dn) as (λ b. (cond b e (with_cell e dn no_cell)).row ≡ e.row) [ true ↦ refl | false ↦ refl ]

erased_row : (e : BlockEntry) (dn : ℕ) → (with_erased e dn).row ≡ e.row
erased_row e dn = elim (has_cell e dn) as (λ b. (cond b (with_cell e dn (cell_erased (is_some e.row) (cell_of e dn))) e).row ≡ e.row) [ true ↦ refl | false ↦ refl ]

placed_replication : (e : BlockEntry) (dn : ℕ) → replication_in (with_place e dn) ≡ replication_in e
placed_replication e dn = elim (has_cell e dn) as (λ b. replication_in (cond b e (with_cell e dn no_cell)) ≡ replication_in e) [ true ↦ refl | false ↦ refl ]

erased_replication : (e : BlockEntry) (dn : ℕ) → replication_in (with_erased e dn) ≡ replication_in e
erased_replication e dn =
    elim (has_cell e dn) as (λ b. replication_in (cond b (with_cell e dn (cell_erased (is_some e.row) (cell_of e dn))) e) ≡ replication_in e) [ true ↦ refl | false ↦ refl ]

-- ---- the laws

-- there is an entry of the block id that was set
pub entry_set : (t : Replicas) (id : ℕ) (e : BlockEntry) (b : ℕ) → has_entry (with_entry t id e) b ≡ ((b == id) || has_entry t b)
entry_set t id e b = ap is_some (find_put b id e t.entries) ∙ through is_some (b == id) (Some e) (entry_at t b) ∙ or_by (b == id) (has_entry t b)

pub make_room_makes : (t : Replicas) (id : ℕ) → MakesRoom t id (room_made t id)
make_room_makes t id =
    let e = entry_or_none t id in
    let cells = λ (d b : ℕ). kept (λ x. find nat_cmp d x.cells) t id e refl b in
    record {
      rows = λ b. kept (λ x. x.row) t id e refl b;
      replications = λ b. kept replication_in t id e refl b;
      replicas = λ d b. ap replica_of (cells d b);
      orders = λ d b. ap is_ordered (cells d b);
      room = λ d b. ap is_some (cells d b);
      entries = λ b. entry_set t id e b;
    }

pub set_block_names : (t : Replicas) (block : Block) (closed : Bool) (replication : ℕ) → Names t block closed replication (block_set t block closed replication)
set_block_names t block closed replication =
    let row : BlockRow = record { block = block; closed = closed } in
    let e = entry_with_row (entry_or_none t block.id) row replication in
    let cells = λ (d b : ℕ). kept (λ x. find nat_cmp d x.cells) t block.id e refl b in
    record {
      rows = λ b. asked (λ x. x.row) t block.id e b;
      replications = λ b. asked replication_in t block.id e b;
      replicas = λ d b. ap replica_of (cells d b);
      orders = λ d b. ap is_ordered (cells d b);
      room = λ d b. ap is_some (cells d b);
    }

pub place_places : (t : Replicas) (dn id : ℕ) → Places t dn id (pair_placed t dn id)
place_places t dn id =
    let o = cell_at t dn id in
    record {
      rows = λ b. kept (λ x. x.row) t id (with_place (entry_or_none t id) dn) (placed_row (entry_or_none t id) dn) b;
      replications = λ b. kept replication_in t id (with_place (entry_or_none t id) dn) (placed_replication (entry_or_none t id) dn) b;
      replicas = λ d b.
          ap replica_of (cell_after_place t dn id d b) ∙ through replica_of (is_pair dn id d b) (Some (unwrap_or o no_cell)) (cell_at t d b)
          ∙ ap (λ r. cond (is_pair dn id d b) r (replica_at t d b)) (filled_replica o) ∙ both_itself (replica_at t) dn id d b;
      orders = λ d b.
          ap is_ordered (cell_after_place t dn id d b) ∙ through is_ordered (is_pair dn id d b) (Some (unwrap_or o no_cell)) (cell_at t d b)
          ∙ ap (λ r. cond (is_pair dn id d b) r (has_order t d b)) (filled_order o) ∙ both_itself (has_order t) dn id d b;
      room = λ d b.
          ap is_some (cell_after_place t dn id d b) ∙ through is_some (is_pair dn id d b) (Some (unwrap_or o no_cell)) (cell_at t d b)
          ∙ or_by (is_pair dn id d b) (is_placed t d b);
    }

pub put_writes : (t : Replicas) (dn id : ℕ) (r : Replica) → SetsReplica t dn id (Some r) (replica_put t dn id r)
put_writes t dn id r =
    let o = cell_at t dn id in
    let c = unwrap_or o no_cell in
    let w = cell_put (has_row t id) r c in
    record {
      rows = λ b. kept (λ x. x.row) t id (with_put (entry_or_none t id) dn r) refl b;
      replications = λ b. kept replication_in t id (with_put (entry_or_none t id) dn r) refl b;
      replicas = λ d b.
          ap replica_of (cell_after_put t dn id r d b) ∙ through replica_of (is_pair dn id d b) (Some w) (cell_at t d b)
          ∙ ap (λ x. cond (is_pair dn id d b) x (replica_at t d b)) (put_replica (has_row t id) r c ∙ ap (cond (has_row t id) (Some r)) (filled_replica o))
          ∙ where_named (is_pair dn id d b) (has_row t id) (Some r) (replica_at t d b) (replica_at t dn id) (both_itself (replica_at t) dn id d b);
      orders = λ d b.
          ap is_ordered (cell_after_put t dn id r d b) ∙ through is_ordered (is_pair dn id d b) (Some w) (cell_at t d b)
          ∙ ap (λ x. cond (is_pair dn id d b) x (has_order t d b)) (put_order (has_row t id) r c ∙ ap (λ x. cond (has_row t id) x true) (filled_order o))
          ∙ where_not_named (is_pair dn id d b) (has_row t id) true (has_order t d b) (has_order t dn id) (both_itself (has_order t) dn id d b);
      room = λ d b.
          ap is_some (cell_after_put t dn id r d b) ∙ through is_some (is_pair dn id d b) (Some w) (cell_at t d b)
          ∙ or_with_true (is_pair dn id d b) (is_placed t d b);
    }

pub erase_writes : (t : Replicas) (dn id : ℕ) → SetsReplica t dn id None (replica_erased t dn id)
erase_writes t dn id =
    let o = cell_at t dn id in
    let w = option_map (cell_erased (has_row t id)) o in
    record {
      rows = λ b. kept_change (λ x. x.row) t id (λ e. with_erased e dn) (λ e. erased_row e dn) b;
      replications = λ b. kept_change replication_in t id (λ e. with_erased e dn) (λ e. erased_replication e dn) b;
      replicas = λ d b.
          ap replica_of (cell_after_erase t dn id d b) ∙ through replica_of (is_pair dn id d b) w (cell_at t d b)
          ∙ ap (λ x. cond (is_pair dn id d b) x (replica_at t d b)) (erased_replica (has_row t id) o)
          ∙ where_named (is_pair dn id d b) (has_row t id) None (replica_at t d b) (replica_at t dn id) (both_itself (replica_at t) dn id d b);
      orders = λ d b.
          ap is_ordered (cell_after_erase t dn id d b) ∙ through is_ordered (is_pair dn id d b) w (cell_at t d b)
          ∙ ap (λ x. cond (is_pair dn id d b) x (has_order t d b)) (erased_order (has_row t id) o)
          ∙ where_not_named (is_pair dn id d b) (has_row t id) false (has_order t d b) (has_order t dn id) (both_itself (has_order t) dn id d b);
      room = λ d b.
          ap is_some (cell_after_erase t dn id d b) ∙ through is_some (is_pair dn id d b) w (cell_at t d b)
          ∙ ap (λ x. cond (is_pair dn id d b) x (is_placed t d b)) (mapped_there (cell_erased (has_row t id)) o) ∙ both_itself (is_placed t) dn id d b
          ∙ or_with_false (is_pair dn id d b) (is_placed t d b);
    }

pub retire_retires : (t : Replicas) (id : ℕ) → Retires t id (block_retired t id)
retire_retires t id = record {
  rows = λ b. row_after_retire t id b;
  replications = λ b. replication_after_retire t id b;
  replicas = λ d b.
      ap replica_of (cell_after_retire t id d b) ∙ through replica_of (b == id) (option_map cell_retired (cell_at t d id)) (cell_at t d b)
      ∙ ap (λ x. cond (b == id) x (replica_at t d b)) (retired_replica (cell_at t d id));
  orders = λ d b.
      ap is_ordered (cell_after_retire t id d b) ∙ through is_ordered (b == id) (option_map cell_retired (cell_at t d id)) (cell_at t d b)
      ∙ ap (λ x. cond (b == id) x (has_order t d b)) (retired_order (cell_at t d id)) ∙ ordered d b (b == id) refl;
  room = λ d b.
      ap is_some (cell_after_retire t id d b) ∙ through is_some (b == id) (option_map cell_retired (cell_at t d id)) (cell_at t d b)
      ∙ ap (λ x. cond (b == id) x (is_placed t d b)) (mapped_there cell_retired (cell_at t d id)) ∙ itself (is_placed t d) id b;
}
  where
    ordered : (d b : ℕ) (same : Bool) → (b == id) ≡ same → cond same (has_order t d id || is_some (replica_at t d id)) (has_order t d b) ≡ (has_order t d b || (same && is_some (replica_at t d b)))
    ordered d b true e = ap (λ x. has_order t d x || is_some (replica_at t d x)) (sym (eqb-true b id e))
    ordered d b false e = or_nothing (has_order t d b)

-- ---- tables stay in order

cells_sorted_with : (t : Replicas) (id : ℕ) (e : BlockEntry) → IsSortedTable t → is_sorted nat_cmp e.cells ≡ true → IsSortedTable (with_entry t id e)
cells_sorted_with t id e h s = record {
  blocks = put_sorted id e t.entries h.blocks;
  datanodes = λ b. ap (is_sorted nat_cmp) (asked (λ x. x.cells) t id e b) ∙ cases b (b == id);
}
  where
    cases : (b : ℕ) (same : Bool) → is_sorted nat_cmp (cond same e.cells (entry_or_none t b).cells) ≡ true
    cases b true = s
    cases b false = h.datanodes b

changed_in_order : (t : Replicas) (id : ℕ) (g : BlockEntry → BlockEntry) → IsSortedTable t → ((e : BlockEntry) → is_sorted nat_cmp e.cells ≡ true → is_sorted nat_cmp (g e).cells ≡ true) → IsSortedTable (changed_at t id g)
changed_in_order t id g h keeps = cases (entry_at t id) refl
  where
    cases : (o : Option BlockEntry) → entry_at t id ≡ o → IsSortedTable (changed_from t id g o)
    cases None e = h
    cases (Some v) e = cells_sorted_with t id (g v) h (keeps v (ap (λ o. is_sorted nat_cmp (unwrap_or o no_entry).cells) (sym e) ∙ h.datanodes id))

pub new_in_order : (min : ℕ) → IsSortedTable (empty_table min)
new_in_order min = record { blocks = refl; datanodes = λ id. refl }

pub make_room_in_order : (t : Replicas) (id : ℕ) → IsSortedTable t → IsSortedTable (room_made t id)
make_room_in_order t id h = cells_sorted_with t id (entry_or_none t id) h (h.datanodes id)

pub set_block_in_order : (t : Replicas) (block : Block) (closed : Bool) (replication : ℕ) → IsSortedTable t → IsSortedTable (block_set t block closed replication)
set_block_in_order t block closed replication h = cells_sorted_with t block.id _ h (h.datanodes block.id)

pub place_in_order : (t : Replicas) (dn id : ℕ) → IsSortedTable t → IsSortedTable (pair_placed t dn id)
place_in_order t dn id h = cells_sorted_with t id (with_place (entry_or_none t id) dn) h (cases (has_cell (entry_or_none t id) dn))
  where
    cases : (b : Bool) → is_sorted nat_cmp (cond b (entry_or_none t id) (with_cell (entry_or_none t id) dn no_cell)).cells ≡ true
    cases true = h.datanodes id
    cases false = put_sorted dn no_cell (entry_or_none t id).cells (h.datanodes id)

pub put_in_order : (t : Replicas) (dn id : ℕ) (r : Replica) → IsSortedTable t → IsSortedTable (replica_put t dn id r)
put_in_order t dn id r h = cells_sorted_with t id (with_put (entry_or_none t id) dn r) h (put_sorted dn _ (entry_or_none t id).cells (h.datanodes id))

pub erase_in_order : (t : Replicas) (dn id : ℕ) → IsSortedTable t → IsSortedTable (replica_erased t dn id)
erase_in_order t dn id h = changed_in_order t id (λ e. with_erased e dn) h (λ e s. erased_sorted e (has_cell e dn) s)
  where
    erased_sorted : (e : BlockEntry) (b : Bool) → is_sorted nat_cmp e.cells ≡ true → is_sorted nat_cmp (cond b (with_cell e dn (cell_erased (is_some e.row) (cell_of e dn))) e).cells ≡ true
    erased_sorted e true s = put_sorted dn _ e.cells s
    erased_sorted e false s = s

pub retire_in_order : (t : Replicas) (id : ℕ) → IsSortedTable t → IsSortedTable (block_retired t id)
retire_in_order t id h = changed_in_order t id retired h (λ e s. sorted_retired e.cells ∙ s)
