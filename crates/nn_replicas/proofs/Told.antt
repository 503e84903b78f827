-- Room first, and then what is told: in one write of the entry.
use Rattle.std.proofs.Common.{◌≡◌, ℕ, Bool, true, false, cond, List, [], ◌∷◌, Option, Some, None, is_some, refl, sym, ap, subst, ◌∙◌, nat_cmp, eq-eqb}
use Rattle.std.specs.Prelude.{unwrap_or}
use Rattle.std.specs.declared.cmp.Ordering.TheVariants.{Less, Equal, Greater}
use Rattle.std.specs.Cmp.{nat_cmp_is}
use Rattle.std.specs.BTreeMap.{is_at}
use Rattle.std.specs.Map.{lookup}
use Rattle.std.specs.FinMap.Entries.{by_order, find, put}
use Rattle.nn_types.specs.declared.replica.Replica.{Replica}
use Rattle.nn_replicas.specs.declared.entry.Cell.{Cell}
use Rattle.nn_replicas.specs.Table.{BlockEntry, Replicas}
use Rattle.nn_replicas.specs.Entry.{no_entry, no_cell, cell_put, cell_of, with_cell, with_place, with_put, with_erased, with_told, stamp_in}
use Rattle.nn_replicas.specs.Calls.{entry_at, entry_or_none, stamp_at, reaches, with_entry, changed_from, with_due, pair_placed, pair_told, pair_told_if, due_told}
use Rattle.nn_replicas.specs.Effects.{Places, SetsReplica}
use Rattle.nn_replicas.specs.Order.{IsSortedTable}
use Rattle.nn_replicas.proofs.Lookups.{find_put, place_places, put_writes, erase_writes, place_in_order, put_in_order, erase_in_order}
use Rattle.nn_replicas.proofs.Entries.{lookup_is_find}
use Rattle.nn_replicas.proofs.Tables.{Entries, table}

pub itself_cmp : (k : ℕ) → nat_cmp k k ≡ Equal
itself_cmp k = sym (nat_cmp_is k k Equal refl)

-- the second value put at a key is the one that stays
pub put_twice : {X : Type 0} (k : ℕ) (v w : X) (es : List (ℕ × X)) → put nat_cmp k w (put nat_cmp k v es) ≡ put nat_cmp k w es
put_twice k v w [] = ap (λ o. by_order o ((k, w) ∷ (k, v) ∷ []) ((k, w) ∷ []) ((k, v) ∷ put nat_cmp k w [])) (itself_cmp k)
put_twice k v w (e ∷ es) =
    elim (nat_cmp k e.0) as (λ o. nat_cmp k e.0 ≡ o → put nat_cmp k w (by_order o ((k, v) ∷ e ∷ es) ((e.0, v) ∷ es) (e ∷ put nat_cmp k v es)) ≡ by_order o ((k, w) ∷ e ∷ es) ((e.0, w) ∷ es) (e ∷ put nat_cmp k w es)) [
      | Less ↦ λ l. ap (λ o. by_order o ((k, w) ∷ (k, v) ∷ e ∷ es) ((k, w) ∷ e ∷ es) ((k, v) ∷ put nat_cmp k w (e ∷ es))) (itself_cmp k)
      | Equal ↦ λ l. ap (λ o. by_order o ((k, w) ∷ (e.0, v) ∷ es) ((e.0, w) ∷ es) ((e.0, v) ∷ put nat_cmp k w es)) l
      | Greater ↦ λ l. ap (λ o. by_order o ((k, w) ∷ e ∷ put nat_cmp k v es) ((e.0, w) ∷ put nat_cmp k v es) (e ∷ put nat_cmp k w (put nat_cmp k v es))) l ∙ ap (λ r. e ∷ r) (put_twice k v w es)
    ] refl

pub found_put : {X : Type 0} (k : ℕ) (v : X) (es : List (ℕ × X)) → find nat_cmp k (put nat_cmp k v es) ≡ Some v
found_put k v es = find_put k k v es ∙ ap (λ b. cond b (Some v) (find nat_cmp k es)) (eq-eqb k k refl)

-- a replica that is put makes its own room
pub put_places : (e : BlockEntry) (dn : ℕ) (r : Replica) → with_put e dn r ≡ with_put (with_place e dn) dn r
put_places e dn r = sym (cases (find nat_cmp dn e.cells) refl)
  where
    cases : (o : Option Cell) → find nat_cmp dn e.cells ≡ o → with_put (cond (is_some o) e (with_cell e dn no_cell)) dn r ≡ with_cell e dn (cell_put (is_some e.row) r (cell_of e dn))
    cases None h =
        let was : no_cell ≡ cell_of e dn = ap (λ o. unwrap_or o no_cell) (sym h) in
        let now : cell_of (with_cell e dn no_cell) dn ≡ no_cell = ap (λ o. unwrap_or o no_cell) (found_put dn no_cell e.cells) in
        ap (λ c. with_cell (with_cell e dn no_cell) dn (cell_put (is_some e.row) r c)) (now ∙ was)
        ∙ ap {B = BlockEntry} (λ xs. record e { cells = xs }) (put_twice dn no_cell (cell_put (is_some e.row) r (cell_of e dn)) e.cells)
    cases (Some c) h = refl

entry_twice : (t : Replicas) (id : ℕ) (x y : BlockEntry) → with_entry (with_entry t id x) id y ≡ with_entry t id y
entry_twice t id x y = ap {B = Replicas} (λ es. record t { entries = es }) (put_twice id x y t.entries)

-- one write does what room and the telling do, one after the other
pub told_at_once : (t : Replicas) (dn id : ℕ) (r : Option Replica) → with_entry t id (with_told (entry_or_none t id) dn r) ≡ pair_told (pair_placed t dn id) dn id r
told_at_once t dn id (Some r) =
    let placed = with_place (entry_or_none t id) dn in
    let there : entry_at (with_entry t id placed) id ≡ Some placed = found_put id placed t.entries in
    ap (with_entry t id) (put_places (entry_or_none t id) dn r)
    ∙ sym (ap (λ o. with_entry (with_entry t id placed) id (with_put (unwrap_or o no_entry) dn r)) there ∙ entry_twice t id placed (with_put placed dn r))
told_at_once t dn id None =
    let placed = with_place (entry_or_none t id) dn in
    let there : entry_at (with_entry t id placed) id ≡ Some placed = found_put id placed t.entries in
    sym (ap (changed_from (with_entry t id placed) id (λ e. with_erased e dn)) there ∙ entry_twice t id placed (with_erased placed dn))

-- where the row is not there, or has a lower stamp, there is only room
pub due_unreached : (t : Replicas) (dn id stamp : ℕ) (r : Option Replica) → reaches (stamp_at t id) stamp ≡ false → pair_placed t dn id ≡ due_told t dn id stamp r
due_unreached t dn id stamp r h = ap (λ b. pair_told_if b (pair_placed t dn id) dn id r) (sym h)

pub due_reached : (t : Replicas) (dn id stamp : ℕ) (r : Option Replica) → reaches (stamp_at t id) stamp ≡ true → pair_told (pair_placed t dn id) dn id r ≡ due_told t dn id stamp r
due_reached t dn id stamp r h = ap (λ b. pair_told_if b (pair_placed t dn id) dn id r) (sym h)

-- the same of one look-up
pub told_due : (t : Replicas) (dn id stamp : ℕ) (r : Option Replica) → with_entry t id (with_due (entry_or_none t id) dn stamp r) ≡ due_told t dn id stamp r
told_due t dn id stamp r = cases (reaches (stamp_at t id) stamp) refl
  where
    cases : (b : Bool) → reaches (stamp_at t id) stamp ≡ b → with_entry t id (with_due (entry_or_none t id) dn stamp r) ≡ due_told t dn id stamp r
    cases true h =
        ap (λ b. with_entry t id (cond b (with_told (entry_or_none t id) dn r) (with_place (entry_or_none t id) dn))) h ∙ told_at_once t dn id r ∙ due_reached t dn id stamp r h
    cases false h = ap (λ b. with_entry t id (cond b (with_told (entry_or_none t id) dn r) (with_place (entry_or_none t id) dn))) h ∙ due_unreached t dn id stamp r h

-- where nothing is known of the block
pub early_due : (t : Replicas) (dn id stamp : ℕ) (r : Option Replica) → entry_at t id ≡ None → pair_placed t dn id ≡ due_told t dn id stamp r
early_due t dn id stamp r none = due_unreached t dn id stamp r (ap (λ o. reaches (stamp_in (unwrap_or o no_entry).row) stamp) none)

-- ---- What telling changes.

told_writes : (t : Replicas) (dn id : ℕ) (r : Option Replica) → SetsReplica t dn id r (pair_told t dn id r)
told_writes t dn id (Some r) = put_writes t dn id r
told_writes t dn id None = erase_writes t dn id

pub due_writes : (t : Replicas) (dn id stamp : ℕ) (r : Option Replica) → reaches (stamp_at t id) stamp ≡ true → SetsReplica (pair_placed t dn id) dn id r (due_told t dn id stamp r)
due_writes t dn id stamp r h = subst (SetsReplica (pair_placed t dn id) dn id r) (due_reached t dn id stamp r h) (told_writes (pair_placed t dn id) dn id r)

pub early_places : (t : Replicas) (dn id stamp : ℕ) (r : Option Replica) → reaches (stamp_at t id) stamp ≡ false → Places t dn id (due_told t dn id stamp r)
early_places t dn id stamp r h = subst (Places t dn id) (due_unreached t dn id stamp r h) (place_places t dn id)

told_in_order : (t : Replicas) (dn id : ℕ) (r : Option Replica) → IsSortedTable t → IsSortedTable (pair_told t dn id r)
told_in_order t dn id (Some r) o = put_in_order t dn id r o
told_in_order t dn id None o = erase_in_order t dn id o

pub due_in_order : (t : Replicas) (dn id stamp : ℕ) (r : Option Replica) → IsSortedTable t → IsSortedTable (due_told t dn id stamp r)
due_in_order t dn id stamp r o =
    let placed = place_in_order t dn id o in
    elim (reaches (stamp_at t id) stamp) as (λ b. IsSortedTable (pair_told_if b (pair_placed t dn id) dn id r)) [
      | true ↦ told_in_order (pair_placed t dn id) dn id r placed
      | false ↦ placed
    ]

-- ---- The stamp that stands at a block id.

pub no_stamp : (t : Replicas) (min b : ℕ) (es : Entries) → table min es ≡ t → None ≡ lookup (is_at (nat_cmp b)) es → None ≡ stamp_at t b
no_stamp t min b es e h = ap (λ o. stamp_in (unwrap_or o no_entry).row) (h ∙ lookup_is_find b es) ∙ ap (λ x. stamp_at x b) e

pub stamp_there : (t : Replicas) (min b : ℕ) (es : Entries) (v : BlockEntry) → table min es ≡ t → Some v ≡ lookup (is_at (nat_cmp b)) es → stamp_in v.row ≡ stamp_at t b
stamp_there t min b es v e h = ap (λ o. stamp_in (unwrap_or o no_entry).row) (h ∙ lookup_is_find b es) ∙ ap (λ x. stamp_at x b) e
