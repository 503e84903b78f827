-- The table after the room of a block was given back.
use Rattle.std.proofs.Common.{◌≡◌, ℕ, ◌+◌, Bool, true, false, cond, List, [], ◌∷◌, Option, Some, None, is_some, refl, sym, ap, ◌∙◌, arith, nat_cmp, eqb-true}
use Rattle.std.proofs.option.Match.{None-if_not_some}
use Rattle.std.specs.Prelude.{◌&&◌, ◌==◌, not, unwrap_or, option_and_then}
use Rattle.std.specs.List.{list_all}
use Rattle.std.specs.Map.{remove_entry, lookup}
use Rattle.std.specs.BTreeMap.{is_at}
use Rattle.std.specs.Ordering.{is_eq, is_lt}
use Rattle.std.specs.FinMap.Entries.{find, below_all, is_sorted}
use Rattle.nn_replicas.specs.declared.entry.Cell.{Cell}
use Rattle.nn_replicas.specs.Table.{BlockEntry, Replicas}
use Rattle.nn_replicas.specs.Entry.{is_ordered, no_entry, is_idle, is_idle_cell, replication_in}
use Rattle.nn_replicas.specs.Calls.{entry_at, entry_or_none, has_entry, row_at, replica_at, has_order, is_placed, without_entry, is_idle_at, room_given_back}
use Rattle.nn_replicas.specs.Order.{IsSortedTable}
use Rattle.nn_replicas.specs.Effects.{GivesBack}
use Rattle.nn_replicas.proofs.Entries.{halves, find_below, tail_sorted, share, summed, summed_cons, summed_there}
use Rattle.nn_replicas.proofs.Lookups.{eq_is}
use Rattle.nn_replicas.proofs.Entries.{lookup_is_find}
use Rattle.nn_replicas.proofs.Tables.{Entries, table}
use Rattle.nn_replicas.proofs.Figured.{Moves}

-- ---- entries without one

module _ {X : Type 0} where
  -- what is found once the entry of a key was taken out
  pub find_removed : (q k : ℕ) (es : List (ℕ × X)) → is_sorted nat_cmp es ≡ true → find nat_cmp q (remove_entry (is_at (nat_cmp k)) es) ≡ cond (q == k) None (find nat_cmp q es)
  find_removed q k [] s = nothing (q == k)
    where
      nothing : (b : Bool) → ◌≡◌ {A = Option X} None (cond b None None)
      nothing true = refl
      nothing false = refl
  find_removed q k (e ∷ es) s = cases (find_removed q k es (tail_sorted e es s)) (k == e.0) (q == k) refl refl
    where
      cases : find nat_cmp q (remove_entry (is_at (nat_cmp k)) es) ≡ cond (q == k) None (find nat_cmp q es)
          → (here same : Bool) → (k == e.0) ≡ here → (q == k) ≡ same → find nat_cmp q (cond (is_eq (nat_cmp k e.0)) es (e ∷ remove_entry (is_at (nat_cmp k)) es)) ≡ cond same None (find nat_cmp q (e ∷ es))
      cases more true true h g =
          let at : q ≡ e.0 = eqb-true q k g ∙ eqb-true k e.0 h in
          ap (λ b. find nat_cmp q (cond b es (e ∷ remove_entry (is_at (nat_cmp k)) es))) (eq_is k e.0 ∙ h)
          ∙ ap (λ x. find nat_cmp x es) at ∙ find_below e.0 es (halves (below_all nat_cmp e.0 es) (is_sorted nat_cmp es) s).0
      cases more true false h g =
          ap (λ b. find nat_cmp q (cond b es (e ∷ remove_entry (is_at (nat_cmp k)) es))) (eq_is k e.0 ∙ h)
          ∙ sym (ap (λ b. cond b (Some e.1) (find nat_cmp q es)) (eq_is q e.0 ∙ ap (λ x. q == x) (sym (eqb-true k e.0 h)) ∙ g))
      cases more false true h g =
          ap (λ b. find nat_cmp q (cond b es (e ∷ remove_entry (is_at (nat_cmp k)) es))) (eq_is k e.0 ∙ h)
          ∙ ap (λ b. cond b (Some e.1) (find nat_cmp q (remove_entry (is_at (nat_cmp k)) es))) (eq_is q e.0 ∙ ap (λ x. x == e.0) (eqb-true q k g) ∙ h)
          ∙ more ∙ ap (λ b. cond b None (find nat_cmp q es)) g
      cases more false false h g =
          ap (λ b. find nat_cmp q (cond b es (e ∷ remove_entry (is_at (nat_cmp k)) es))) (eq_is k e.0 ∙ h)
          ∙ ap (λ o. cond (is_eq (nat_cmp q e.0)) (Some e.1) o) (more ∙ ap (λ b. cond b None (find nat_cmp q es)) g)

  -- where there is none
  pub removed_none : (k : ℕ) (es : List (ℕ × X)) → find nat_cmp k es ≡ None → remove_entry (is_at (nat_cmp k)) es ≡ es
  removed_none k [] h = refl
  removed_none k (e ∷ es) h = cases (λ g. removed_none k es g) (is_eq (nat_cmp k e.0)) h
    where
      cases : (find nat_cmp k es ≡ None → remove_entry (is_at (nat_cmp k)) es ≡ es) → (b : Bool) → cond b (Some e.1) (find nat_cmp k es) ≡ None → cond b es (e ∷ remove_entry (is_at (nat_cmp k)) es) ≡ e ∷ es
      cases more true g = cc
      cases more false g = ap (λ r. e ∷ r) (more g)

  below_removed : (j k : ℕ) (es : List (ℕ × X)) → below_all nat_cmp j es ≡ true → below_all nat_cmp j (remove_entry (is_at (nat_cmp k)) es) ≡ true
  below_removed j k [] h = refl
  below_removed j k (e ∷ es) h =
      let parts = halves (is_lt (nat_cmp j e.0)) (below_all nat_cmp j es) h in
      elim (is_eq (nat_cmp k e.0)) as (λ b. below_all nat_cmp j (cond b es (e ∷ remove_entry (is_at (nat_cmp k)) es)) ≡ true) [
        | true ↦ parts.1
        | false ↦ ap (λ b. b && below_all nat_cmp j (remove_entry (is_at (nat_cmp k)) es)) parts.0 ∙ below_removed j k es parts.1
      ]

  pub removed_sorted : (k : ℕ) (es : List (ℕ × X)) → is_sorted nat_cmp es ≡ true → is_sorted nat_cmp (remove_entry (is_at (nat_cmp k)) es) ≡ true
  removed_sorted k [] s = refl
  removed_sorted k (e ∷ es) s =
      let parts = halves (below_all nat_cmp e.0 es) (is_sorted nat_cmp es) s in
      elim (is_eq (nat_cmp k e.0)) as (λ b. is_sorted nat_cmp (cond b es (e ∷ remove_entry (is_at (nat_cmp k)) es)) ≡ true) [
        | true ↦ parts.1
        | false ↦ ap (λ b. b && is_sorted nat_cmp (remove_entry (is_at (nat_cmp k)) es)) (below_removed e.0 k es parts.0) ∙ removed_sorted k es parts.1
      ]

  -- the sum without it
  pub summed_removed : (f : X → ℕ) (k : ℕ) (es : List (ℕ × X)) → summed f (remove_entry (is_at (nat_cmp k)) es) + share f (find nat_cmp k es) ≡ summed f es
  summed_removed f k [] = refl
  summed_removed f k (e ∷ es) =
      elim (is_eq (nat_cmp k e.0)) as (λ b. summed f (cond b es (e ∷ remove_entry (is_at (nat_cmp k)) es)) + share f (cond b (Some e.1) (find nat_cmp k es)) ≡ summed f (e ∷ es)) [
        | true ↦ omega (arith, summed_cons f e es)
        | false ↦ omega (arith, summed_cons f e es, summed_cons f e (remove_entry (is_at (nat_cmp k)) es), summed_removed f k es)
      ]

-- ---- what is known of a block that is idle

idle_parts : (e : BlockEntry) → is_idle e ≡ true → (is_some e.row ≡ false) × (list_all (λ c. is_idle_cell c.1) e.cells ≡ true)
idle_parts e h = cases (is_some e.row) refl
  where
    cases : (b : Bool) → is_some e.row ≡ b → (is_some e.row ≡ false) × (list_all (λ c. is_idle_cell c.1) e.cells ≡ true)
    cases true g = let no = ap (λ b. not b && list_all (λ c. is_idle_cell c.1) e.cells) (sym g) ∙ h in cc
    cases false g = (g, ap (λ b. not b && list_all (λ c. is_idle_cell c.1) e.cells) (sym g) ∙ h)

no_row : (e : BlockEntry) → is_idle e ≡ true → e.row ≡ None
no_row e h = None-if_not_some e.row (idle_parts e h).0

idle_found : (dn : ℕ) (cells : List (ℕ × Cell)) → list_all (λ c. is_idle_cell c.1) cells ≡ true → (option_and_then (λ (c : Cell). c.replica) (find nat_cmp dn cells) ≡ None) × (is_ordered (find nat_cmp dn cells) ≡ false)
idle_found dn [] h = (refl, refl)
idle_found dn (c ∷ cells) h =
    let parts = halves (is_idle_cell c.1) (list_all (λ c. is_idle_cell c.1) cells) h in
    elim (is_eq (nat_cmp dn c.0)) as (λ b. (option_and_then (λ (x : Cell). x.replica) (cond b (Some c.1) (find nat_cmp dn cells)) ≡ None) × (is_ordered (cond b (Some c.1) (find nat_cmp dn cells)) ≡ false)) [
      | true ↦ idle_cell c.1 parts.0
      | false ↦ idle_found dn cells parts.1
    ]
  where
    idle_cell : (c : Cell) → is_idle_cell c ≡ true → (c.replica ≡ None) × (c.ordered ≡ false)
    idle_cell c h = cases c.ordered c.replica refl refl
      where
        cases : (b : Bool) (o : Option _) → c.ordered ≡ b → c.replica ≡ o → (c.replica ≡ None) × (c.ordered ≡ false)
        cases true o e f = let no = ap (λ b. not b && not (is_some c.replica)) (sym e) ∙ h in cc
        cases false None e f = (f, e)
        cases false (Some r) e f = let no = ap (λ b. not b && not (is_some c.replica)) (sym e) ∙ h in let yes = ap (λ o. not (is_some o)) (sym f) ∙ no in cc

-- ---- the table

-- a block that is idle has no row, no replica and no order
pub idle_tells : (t : Replicas) (id : ℕ) → is_idle_at t id ≡ true → (row_at t id ≡ None) × ((dn : ℕ) → (replica_at t dn id ≡ None) × (has_order t dn id ≡ false))
idle_tells t id idle = (no_row (entry_or_none t id) idle, λ dn. idle_found dn (entry_or_none t id).cells (idle_parts (entry_or_none t id) idle).1)

module _ (t : Replicas) (id : ℕ) (s : is_sorted nat_cmp t.entries ≡ true) (idle : is_idle_at t id ≡ true) where
  -- what is asked of a block id is as it was, where no entry and the entry answer the same
  stays : {X : Type 0} (f : BlockEntry → X) → f no_entry ≡ f (entry_or_none t id) → (b : ℕ) → f (entry_or_none (without_entry t id) b) ≡ f (entry_or_none t b)
  stays f same b = ap (λ x. f (unwrap_or x no_entry)) (find_removed b id t.entries s) ∙ cases (b == id) refl
    where
      cases : (here : Bool) → (b == id) ≡ here → f (unwrap_or (cond here None (entry_at t b)) no_entry) ≡ f (entry_or_none t b)
      cases true h = same ∙ ap (λ x. f (entry_or_none t x)) (sym (eqb-true b id h))
      cases false h = refl

  idle_row : None ≡ row_at t id
  idle_row = sym (idle_tells t id idle).0

  found : (d : ℕ) → (replica_at t d id ≡ None) × (has_order t d id ≡ false)
  found = (idle_tells t id idle).1

  gone : (d b : ℕ) → is_placed (without_entry t id) d b ≡ (not ((b == id) && true) && is_placed t d b)
  gone d b = ap (λ x. is_some (find nat_cmp d (unwrap_or x no_entry).cells)) (find_removed b id t.entries s) ∙ cases (b == id)
    where
      cases : (here : Bool) → is_some (find nat_cmp d (unwrap_or (cond here None (entry_at t b)) no_entry).cells) ≡ (not (here && true) && is_placed t d b)
      cases true = refl
      cases false = refl

  no_entry_left : (b : ℕ) → has_entry (without_entry t id) b ≡ (not ((b == id) && true) && has_entry t b)
  no_entry_left b = ap is_some (find_removed b id t.entries s) ∙ elim (b == id) as (λ here. is_some (cond here None (entry_at t b)) ≡ (not (here && true) && has_entry t b)) [ true ↦ refl | false ↦ refl ]

  taken_gives : GivesBack t id (without_entry t id)
  taken_gives = record {
    rows = λ b. stays (λ e. e.row) idle_row b;
    replications = λ b. stays replication_in (ap (λ r. replication_in (record (entry_or_none t id) { row = r })) idle_row) b;
    replicas = λ d b. stays (λ e. option_and_then (λ (c : Cell). c.replica) (find nat_cmp d e.cells)) (sym (found d).0) b;
    orders = λ d b. stays (λ e. is_ordered (find nat_cmp d e.cells)) (sym (found d).1) b;
    room = λ d b. gone d b ∙ ap (λ i. not ((b == id) && i) && is_placed t d b) (sym idle);
    entries = λ b. no_entry_left b ∙ ap (λ i. not ((b == id) && i) && has_entry t b) (sym idle);
  }

nothing_given : (t : Replicas) (id : ℕ) → is_idle_at t id ≡ false → GivesBack t id t
nothing_given t id h = record {
  rows = λ b. refl;
  replications = λ b. refl;
  replicas = λ d b. refl;
  orders = λ d b. refl;
  room = λ d b. sym (ap (λ i. not ((b == id) && i) && is_placed t d b) h ∙ same (b == id) (is_placed t d b));
  entries = λ b. sym (ap (λ i. not ((b == id) && i) && has_entry t b) h ∙ same (b == id) (has_entry t b));
}
  where
    same : (a b : Bool) → (not (a && false) && b) ≡ b
    same true b = refl
    same false b = refl

pub give_back_gives : (t : Replicas) (id : ℕ) → IsSortedTable t → GivesBack t id (room_given_back t id)
give_back_gives t id o = cases (is_idle_at t id) refl
  where
    cases : (b : Bool) → is_idle_at t id ≡ b → GivesBack t id (cond b (without_entry t id) t)
    cases true h = taken_gives t id o.blocks h
    cases false h = nothing_given t id h

pub give_back_in_order : (t : Replicas) (id : ℕ) → IsSortedTable t → IsSortedTable (room_given_back t id)
give_back_in_order t id o = cases (is_idle_at t id) refl
  where
    without : (b : ℕ) (same : Bool) → (b == id) ≡ same → is_sorted nat_cmp (unwrap_or (cond same None (entry_at t b)) no_entry).cells ≡ true
    without b true h = refl
    without b false h = o.datanodes b

    cases : (b : Bool) → is_idle_at t id ≡ b → IsSortedTable (cond b (without_entry t id) t)
    cases true h = record {
      blocks = removed_sorted id t.entries o.blocks;
      datanodes = λ b. ap (λ x. is_sorted nat_cmp (unwrap_or x no_entry).cells) (find_removed b id t.entries o.blocks) ∙ without b (b == id) refl;
    }
    cases false h = o

-- ---- the code's table

-- the entry of a block id, which is idle, was taken out
pub record Leaves (t : Replicas) (min b : ℕ) (es fs : Entries) (v : BlockEntry) : Type 0 where
  pub all : table min es ≡ t
  pub found : find nat_cmp b es ≡ Some v
  pub idle : is_idle v ≡ true
  pub gone : fs ≡ remove_entry (is_at (nat_cmp b)) es

pub leaves : (t : Replicas) (min b : ℕ) (es fs : Entries) (v : BlockEntry) → table min es ≡ t → Some v ≡ lookup (is_at (nat_cmp b)) es → is_idle v ≡ true → fs ≡ remove_entry (is_at (nat_cmp b)) es → Leaves t min b es fs v
leaves t min b es fs v e h i g = record { all = e; found = sym (lookup_is_find b es) ∙ sym h; idle = i; gone = g }

pub went : {t : Replicas} {min b : ℕ} {es fs : Entries} {v : BlockEntry} → Leaves t min b es fs v → Moves es fs (Some v) None
went {t} {min} {b} {es} {fs} {v} l = record {
  there = λ f. (let k = ap (share f) l.found in omega (arith, k, summed_there f b es));
  sums = λ f. (let k = ap (share f) l.found in let g = ap (summed f) l.gone in omega (arith, k, g, summed_removed f b es));
}

pub given_new : {t : Replicas} {min b : ℕ} {es fs : Entries} {v : BlockEntry} → Leaves t min b es fs v → table min fs ≡ room_given_back t b
given_new {t} {min} {b} {es} {fs} {v} l =
    ap (table min) l.gone ∙ ap (λ x. without_entry x b) l.all
    ∙ sym (ap (λ i. cond i (without_entry t b) t) (ap (λ x. is_idle_at x b) (sym l.all) ∙ ap (λ o. is_idle (unwrap_or o no_entry)) l.found ∙ l.idle))

-- what is not idle stays
pub not_given : (t : Replicas) (min b : ℕ) (es : Entries) (v : BlockEntry) → table min es ≡ t → Some v ≡ lookup (is_at (nat_cmp b)) es → is_idle v ≡ false → t ≡ room_given_back t b
not_given t min b es v e h i =
    sym (ap (λ j. cond j (without_entry t b) t) (ap (λ x. is_idle_at x b) (sym e) ∙ ap (λ o. is_idle (unwrap_or o no_entry)) (sym (lookup_is_find b es) ∙ sym h) ∙ i))

-- and where nothing is known nothing goes
pub none_given : (t : Replicas) (min b : ℕ) (es : Entries) → table min es ≡ t → None ≡ lookup (is_at (nat_cmp b)) es → t ≡ room_given_back t b
none_given t min b es e h =
    let none : find nat_cmp b es ≡ None = sym (lookup_is_find b es) ∙ sym h in
    sym (ap (λ j. cond j (without_entry t b) t) (ap (λ x. is_idle_at x b) (sym e) ∙ ap (λ o. is_idle (unwrap_or o no_entry)) none)
    ∙ ap (λ x. without_entry x b) (sym e) ∙ ap (table min) (removed_none b es none) ∙ e)
