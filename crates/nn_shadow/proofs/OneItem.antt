-- One item is taken in: it is held, or it is processed and the room that this leaves idle is given back.
use Rattle.std.proofs.Common.{◌≡◌, ℕ, true, false, cond, List, [], ◌∷◌, ◌++◌, map, Option, Some, None, is_some, refl, sym, ap, ◌∙◌, inr, append-nil}
use Rattle.std.specs.Prelude.{◌==◌, ◌&&◌, not}
use Rattle.std.proofs.lemmas.Bool.{both_ways, and_from, or_left, eq-eqb, false_from_ne_true}
use Rattle.nn_types.specs.declared.report.Message.{Message}
use Rattle.nn_types.specs.declared.report.Kind.{Kind}
use Rattle.nn_types.specs.declared.report.Kind.TheVariants.{Receiving, Received, Deleted, Begin, Listed, Finish}
use Rattle.nn_types.specs.declared.replica.Replica.{Replica}
use Rattle.nn_types.specs.declared.event.Cause.TheVariants.{Due}
use Rattle.nn_types.specs.declared.status.Status.{Status}
use Rattle.nn_types.specs.Due.{is_due}
use Rattle.nn_model.specs.declared.form.BlockRow.{BlockRow}
use Rattle.nn_model.specs.Namespace.{Namespace}
use Rattle.nn_model.specs.History.{History, processed}
use Rattle.nn_model.specs.Replay.{reported, reported_as}
use Rattle.nn_replicas.specs.Table.{Replicas}
use Rattle.nn_replicas.specs.Entry.{stamp_in}
use Rattle.nn_replicas.specs.Calls.{row_at, has_order, is_idle_at, without_entry, room_given_back, pair_placed, replica_put, stamp_at, reaches, pair_told, pair_told_if, due_told}
use Rattle.nn_replicas.specs.Effects.{is_pair, has_row}
use Rattle.nn_replicas.proofs.GivenBack.{idle_tells}
use Rattle.nn_replicas.proofs.Lookups.{place_places, put_writes}
use Rattle.nn_postponed.specs.Queues.{queued, all_queued}
use Rattle.nn_postponed.specs.Release.{must_wait}
use Rattle.nn_postponed.proofs.Orders.{any_queued}
use Rattle.nn_shadow.specs.Calls.{is_due_in}
use Rattle.nn_shadow.specs.Items.{TakesItems, LeavesItems}
use Rattle.nn_shadow.specs.Room.{is_waited_for, given_back, taken_and_given_back, taken_without_row}
use Rattle.nn_shadow.specs.Steps.{taken_as, message_taken, messages_taken, status_by_row}
use Rattle.nn_shadow.proofs.Tables.{taken_writes}

-- ---- what keeps its room

given_not : (held : List Message) (t : Replicas) (id : ℕ) → is_idle_at t id ≡ false → given_back held t id ≡ t
given_not held t id busy = elim (is_waited_for held id) as (λ w. cond w t (room_given_back t id) ≡ t) [
  | true ↦ refl
  | false ↦ ap (λ i. cond i (without_entry t id) t) busy
]

-- a block with a row
row_busy : (t : Replicas) (id : ℕ) → has_row t id ≡ true → is_idle_at t id ≡ false
row_busy t id named = false_from_ne_true _ (λ idle. both_ways (has_row t id) (ap is_some (idle_tells t id idle).0) named)

-- a block of which a replica was told: it has a row, or there is an order
put_busy : (t : Replicas) (dn id : ℕ) (r : Replica) → is_idle_at (replica_put t dn id r) id ≡ false
put_busy t dn id r = false_from_ne_true _ (λ idle.
    let w = put_writes t dn id r in
    let told = idle_tells (replica_put t dn id r) id idle in
    let no_row : has_row t id ≡ false = ap is_some (sym (w.rows id) ∙ told.0) in
    both_ways (has_order (replica_put t dn id r) dn id) (told.1 dn).1
    (w.orders dn id
    ∙ ap (λ n. cond (is_pair dn id dn id && not n) true (has_order t dn id)) no_row
    ∙ ap (λ p. cond (p && true) true (has_order t dn id)) (and_from (dn == dn) (id == id) (eq-eqb dn dn refl) (eq-eqb id id refl))))

-- where a replica is told there is nothing to give back
pub told_keeps : (held : List Message) (t : Replicas) (m : Message) (k : Kind) → m.kind ≡ k → is_some (reported_as k m) ≡ true → message_taken t m ≡ taken_and_given_back held t m
told_keeps held t m k is told = sym (given_not held (message_taken t m) m.block (ap (λ l. is_idle_at (taken_as l t m) m.block) is ∙ busy k told))
  where
    busy : (l : Kind) → is_some (reported_as l m) ≡ true → is_idle_at (taken_as l t m) m.block ≡ false
    busy Receiving e = put_busy t m.dn m.block (record { stamp = m.stamp; len = m.len; kind = m.kind })
    busy Received e = put_busy t m.dn m.block (record { stamp = m.stamp; len = m.len; kind = m.kind })
    busy Deleted e = cc
    busy Begin e = cc
    busy Listed e = cc
    busy Finish e = cc

-- ---- by the row of the table

told_is_taken : (t : Replicas) (m : Message) → pair_told t m.dn m.block (reported m) ≡ message_taken t m
told_is_taken t m = by_kind m.kind
  where
    by_kind : (k : Kind) → pair_told t m.dn m.block (reported_as k m) ≡ taken_as k t m
    by_kind Receiving = refl
    by_kind Received = refl
    by_kind Deleted = refl
    by_kind Begin = refl
    by_kind Listed = refl
    by_kind Finish = refl

-- an item that is due is processed once, by the row or without it
pub taken_by_row : (t : Replicas) (held : List Message) (m : Message) (other : Status) (o : Option ℕ) → o ≡ stamp_at t m.block → is_due (status_by_row o other) m.stamp ≡ true →
    taken_without_row o held (due_told t m.dn m.block m.stamp (reported m)) m ≡ taken_and_given_back held (pair_placed t m.dn m.block) m
taken_by_row t held m other None is due =
    ap (λ o. taken_and_given_back held (pair_told_if (reaches o m.stamp) (pair_placed t m.dn m.block) m.dn m.block (reported m)) m) (sym is)
taken_by_row t held m other (Some stamp) is due =
    ap (λ o. pair_told_if (reaches o m.stamp) placed m.dn m.block (reported m)) (sym is)
    ∙ ap (λ r. pair_told_if r placed m.dn m.block (reported m)) due
    ∙ told_is_taken placed m
    ∙ sym (given_not held (message_taken placed m) m.block (row_busy (message_taken placed m) m.block named))
  where
    placed : Replicas
    placed = pair_placed t m.dn m.block

    has_stamp : (r : Option BlockRow) → stamp_in r ≡ Some stamp → is_some r ≡ true
    has_stamp None e = cc
    has_stamp (Some row) e = refl

    named : has_row (message_taken placed m) m.block ≡ true
    named = ap is_some ((taken_writes placed m).rows m.block ∙ (place_places t m.dn m.block).rows m.block) ∙ has_stamp (row_at t m.block) (sym is)

-- ---- all of it

module _ (n : Namespace) (i : Message) (h h_now : History) (was now : List Message) (t t_now : Replicas) where
  -- it has to wait, and is held
  pub one_held : true ≡ must_wait (is_due_in n) was i → h_now ≡ h → now ≡ queued i was → t_now ≡ pair_placed t i.dn i.block → TakesItems n (i ∷ []) h was t h_now now t_now
  one_held waits is_h is_now is_t = record {
    history = is_h ∙ sym (append-nil h) ∙ ap (λ w. h ++ map (processed Due) (cond (not w) (i ∷ []) [])) waits;
    held = is_now ∙ ap (λ w. all_queued was (cond w (i ∷ []) [])) waits;
    table = is_t ∙ sym (ap (λ w. cond w placed (room_given_back placed i.block)) waited)
        ∙ ap (λ w. given_back now (messages_taken placed (cond (not w) (i ∷ []) [])) i.block) waits;
  }
    where
      placed : Replicas
      placed = pair_placed t i.dn i.block

      waited : is_waited_for now i.block ≡ true
      waited = ap (λ l. is_waited_for l i.block) is_now ∙ any_queued (λ m. m.block == i.block) i was ∙ or_left (i.block == i.block) (is_waited_for was i.block) (eq-eqb i.block i.block refl)

  -- it does not, and is processed
  pub one_done : false ≡ must_wait (is_due_in n) was i → h_now ≡ h ++ processed Due i ∷ [] → now ≡ was → t_now ≡ taken_and_given_back was (pair_placed t i.dn i.block) i →
      TakesItems n (i ∷ []) h was t h_now now t_now
  one_done goes is_h is_now is_t = record {
    history = is_h ∙ ap (λ w. h ++ map (processed Due) (cond (not w) (i ∷ []) [])) goes;
    held = is_now ∙ ap (λ w. all_queued was (cond w (i ∷ []) [])) goes;
    table = is_t ∙ (λ j. given_back (sym is_now j) (message_taken (pair_placed t i.dn i.block) i) i.block)
        ∙ ap (λ w. given_back now (messages_taken (pair_placed t i.dn i.block) (cond (not w) (i ∷ []) [])) i.block) goes;
  }

  -- it has to wait, and memory is refused: its room is given back
  pub one_left : h_now ≡ h → now ≡ was → t_now ≡ given_back now (pair_placed t i.dn i.block) i.block → LeavesItems (i ∷ []) h was t h_now now t_now
  one_left is_h is_now is_t = record {
    history = is_h;
    held = is_now;
    table = inr (1, is_t ∙ ap (λ l. given_back l (pair_placed t i.dn i.block) i.block) is_now);
  }
