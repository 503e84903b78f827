-- The table after room was made for a block.
use Rattle.std.proofs.Common.{◌≡◌, ℕ, true, cond, List, [], ◌∷◌, Option, Some, None, is_some, refl, sym, ap, ◌∙◌, nat_cmp}
use Rattle.std.specs.Prelude.{unwrap_or}
use Rattle.std.specs.declared.cmp.Ordering.TheVariants.{Less, Equal, Greater}
use Rattle.std.specs.Ordering.{is_eq}
use Rattle.std.specs.Map.{keys_of, lookup, remove_entry}
use Rattle.std.specs.BTreeMap.{is_at}
use Rattle.std.specs.List.Sorted.{IsStrictlySortedBy}
use Rattle.std.specs.FinMap.Entries.{by_order, find, put, is_sorted}
use Rattle.std.proofs.lemmas.Bool.{both_ways}
use Rattle.nn_replicas.specs.Table.{BlockEntry, Replicas}
use Rattle.nn_replicas.specs.Entry.{no_entry, is_idle}
use Rattle.nn_replicas.specs.Calls.{entry_at, entry_or_none, is_placed, has_entry, with_entry, room_made, is_idle_at, without_entry, room_given_back}
use Rattle.nn_replicas.specs.Effects.{has_row}
use Rattle.nn_replicas.proofs.Entries.{sorted_of, lookup_is_find, put_same}
use Rattle.nn_replicas.proofs.Told.{itself_cmp, found_put}
use Rattle.nn_replicas.proofs.Tables.{Entries, table}

-- ---- what has an entry

-- a block with a row
pub named_entry : (t : Replicas) (id : ℕ) → has_row t id ≡ true → has_entry t id ≡ true
named_entry t id named = by_entry (entry_at t id) named
  where
    by_entry : (o : Option BlockEntry) → is_some (unwrap_or o no_entry).row ≡ true → is_some o ≡ true
    by_entry None h = absurd (both_ways _ refl h)
    by_entry (Some e) h = refl

-- one at which a DataNode was placed
pub placed_entry : (t : Replicas) (dn id : ℕ) → is_placed t dn id ≡ true → has_entry t id ≡ true
placed_entry t dn id placed = by_entry (entry_at t id) placed
  where
    by_entry : (o : Option BlockEntry) → is_some (find nat_cmp dn (unwrap_or o no_entry).cells) ≡ true → is_some o ≡ true
    by_entry None h = absurd (both_ways _ refl h)
    by_entry (Some e) h = refl

-- an entry that is there stays as it is
pub made_there : (t : Replicas) (id : ℕ) (e : BlockEntry) → is_sorted nat_cmp t.entries ≡ true → entry_at t id ≡ Some e → room_made t id ≡ t
made_there t id e s there =
    ap (λ o. with_entry t id (unwrap_or o no_entry)) there ∙ ap {B = Replicas} (λ es. record t { entries = es }) (put_same id e t.entries there s)

-- ---- room that is given back

-- what was put where there was nothing is taken out again
pub removed_put : {X : Type 0} (k : ℕ) (v : X) (es : List (ℕ × X)) → find nat_cmp k es ≡ None → remove_entry (is_at (nat_cmp k)) (put nat_cmp k v es) ≡ es
removed_put k v [] none = ap (λ o. cond (is_eq o) [] ((k, v) ∷ [])) (itself_cmp k)
removed_put k v (e ∷ es) none =
    elim (nat_cmp k e.0) as (λ o. nat_cmp k e.0 ≡ o → cond (is_eq o) (Some e.1) (find nat_cmp k es) ≡ None → remove_entry (is_at (nat_cmp k)) (by_order o ((k, v) ∷ e ∷ es) ((e.0, v) ∷ es) (e ∷ put nat_cmp k v es)) ≡ e ∷ es) [
      | Less ↦ λ l g. ap (λ o. cond (is_eq o) (e ∷ es) ((k, v) ∷ remove_entry (is_at (nat_cmp k)) (e ∷ es))) (itself_cmp k)
      | Equal ↦ λ l g. (cc g)
      | Greater ↦ λ l g. ap (λ o. cond (is_eq o) (put nat_cmp k v es) (e ∷ remove_entry (is_at (nat_cmp k)) (put nat_cmp k v es))) l ∙ ap (λ r. e ∷ r) (removed_put k v es g)
    ] refl none

-- room that was made where there was no entry goes again
pub made_given : (t : Replicas) (id : ℕ) → entry_at t id ≡ None → room_given_back (room_made t id) id ≡ t
made_given t id none =
    ap (λ i. cond i (without_entry (room_made t id) id) (room_made t id)) idle
    ∙ ap {B = Replicas} (λ es. record t { entries = es }) (removed_put id (entry_or_none t id) t.entries none)
  where
    now : entry_at (room_made t id) id ≡ Some no_entry
    now = found_put id (entry_or_none t id) t.entries ∙ ap (λ o. Some (unwrap_or o no_entry)) none

    idle : is_idle_at (room_made t id) id ≡ true
    idle = ap (λ o. is_idle (unwrap_or o no_entry)) now

-- ---- the code's table

-- where there is an entry nothing is to be done
pub room_there : (t : Replicas) (min b : ℕ) (es : Entries) (v : BlockEntry) → table min es ≡ t → Some v ≡ lookup (is_at (nat_cmp b)) es → IsStrictlySortedBy nat_cmp (keys_of es) → t ≡ room_made t b
room_there t min b es v e h s = sym (ap (λ x. room_made x b) (sym e) ∙ made_there (table min es) b v (sorted_of es s) (sym (lookup_is_find b es) ∙ sym h) ∙ e)
