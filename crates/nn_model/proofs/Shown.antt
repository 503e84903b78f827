-- What the sequential standby shows of one DataNode and one block: what the last message that it processed says.
use Rattle.std.proofs.Common.{◌≡◌, ℕ, ◌+◌, Bool, true, false, cond, not, ◌&&◌, ◌||◌, List, [], ◌∷◌, ◌++◌, length, take, map, Some, None, Option, refl, sym, ap, subst, ◌∙◌, inl, inr, arith, append_assoc, append-nil}
use Rattle.std.proofs.option.Match.{None-if_not_some}
use Rattle.std.specs.Prelude.{◌==◌, find, is_some, option_and_then, if◌then◌else◌}
use Rattle.std.specs.List.{list_any}
use Rattle.std.proofs.lemmas.Bool.{or_parts, both_ways, and_parts, eqb-true, cases_Bool, cond-false}
use Rattle.std.proofs.lemmas.List.Elements.{filter_map-append}
use Rattle.nn_types.specs.declared.report.Message.{Message}
use Rattle.nn_types.specs.declared.event.Event.{Event}
use Rattle.nn_types.specs.declared.event.Event.TheVariants.{Applied, Processed}
use Rattle.nn_types.specs.declared.event.Cause.{Cause}
use Rattle.nn_types.specs.declared.event.Cause.TheVariants.{Due, Flush}
use Rattle.nn_types.specs.declared.tx.Tx.{Tx}
use Rattle.nn_types.specs.declared.edit.Edit.{Edit}
use Rattle.nn_types.specs.declared.replica.Replica.{Replica}
use Rattle.nn_model.specs.Namespace.{Namespace}
use Rattle.nn_model.specs.Apply.{effect, refusal}
use Rattle.nn_model.specs.Status.{block_at, due_in}
use Rattle.nn_model.specs.Log.{namespace_after, IsLog}
use Rattle.nn_model.specs.Lanes.{Lanes, message_of, IsSent}
use Rattle.nn_model.specs.History.{History, EachAfter, applied_txid, applied_txids, namespace_at, is_flush, processed}
use Rattle.nn_model.specs.Lawful.{NoFlushBefore}
use Rattle.nn_model.specs.Replay.{Sequential, reported, is_named, after_edit, set_at, after_item, apply_found, process_found, replay_from}
use Rattle.nn_model.proofs.Dues.{edit_goes_on, stays_gone, due_not_awaiting, due_with_none}
use Rattle.nn_model.proofs.Events.{any_left, any_right, any_push, MayBeProcessed, Tells, named_found, applied_more, same_moment}
use Rattle.nn_model.proofs.Sent.{free_is_due}
use Rattle.nn_model.proofs.Places.{DueAlong, namespace_after-push, found_tx, applies_at, take_at, next_tx}

-- the DataNode's last message about the block that was processed
abbrev pub done_by : Lanes → ℕ → ℕ → Option Message → Event → Option Message
done_by lanes dn id last (Applied txid) = last
done_by lanes dn id last (Processed d k b cause) = if (dn == d) && (id == b) then message_of lanes d k b else last

abbrev pub last_done : Lanes → ℕ → ℕ → Option Message → History → Option Message
last_done lanes dn id last [] = last
last_done lanes dn id last (event ∷ events) = last_done lanes dn id (done_by lanes dn id last event) events

abbrev pub has : Option Message → Option Replica
has last = option_and_then reported last

-- what stands at the DataNode and block is what the last processed message says. Before the flush the block of one was due
pub record Shows (dn id : ℕ) (s : Sequential) (last : Option Message) (flushed : Bool) : Type 0 where
  pub replica : s.replica dn id ≡ cond (is_named s.namespace id) (has last) None
  pub order : s.has_order dn id ≡ cond (is_named s.namespace id) false (is_some (has last))
  pub known : flushed ≡ false → (m : Message) → last ≡ Some m → due_in s.namespace id 0 ≡ true

-- ---- an edit. a and b: whether the block is named before and after; r what stands, h what the last message says

edit_replica : (a b : Bool) (r h : Option Replica) → r ≡ cond a h None → (a ≡ false → b ≡ true → h ≡ None) → cond (a && not b) None r ≡ cond b h None
edit_replica true true r h e new = e
edit_replica true false r h e new = refl
edit_replica false true r h e new = e ∙ sym (new refl refl)
edit_replica false false r h e new = e

edit_order : (a b o : Bool) (r h : Option Replica) → r ≡ cond a h None → o ≡ cond a false (is_some h) → (a ≡ false → b ≡ true → h ≡ None) →
    (o || ((a && not b) && is_some r)) ≡ cond b false (is_some h)
edit_order true true o r h e f new = ap (λ y. y || false) f
edit_order true false o r h e f new = ap (λ y. y || is_some r) f ∙ ap is_some e
edit_order false true o r h e f new = ap (λ y. y || false) (f ∙ ap is_some (new refl refl))
edit_order false false o r h e f new = ap (λ y. y || false) f ∙ or_false (is_some h)
  where
    or_false : (y : Bool) → (y || false) ≡ y
    or_false true = refl
    or_false false = refl

not_named : (n : Namespace) (id : ℕ) → is_named n id ≡ false → block_at n id ≡ None
not_named n id without = None-if_not_some (block_at n id) without

none_has : (last : Option Message) → ((m : Message) → last ≡ Some m → ⊥) → has last ≡ None
none_has None without = refl
none_has (Some m) without = absurd (without m refl)

shows_edit : (dn id : ℕ) (s : Sequential) (last : Option Message) (edit : Edit) → refusal s.namespace edit ≡ None →
    (due_in s.namespace id 0 ≡ true → due_in (effect s.namespace edit) id 0 ≡ true) → Shows dn id s last false →
    Shows dn id (after_edit s (effect s.namespace edit)) last false
shows_edit dn id s last edit applies stays shows =
    let new = effect s.namespace edit in
    let fresh : is_named s.namespace id ≡ false → is_named new id ≡ true → has last ≡ None = λ was now. none_has last (λ m is.
    let gone = not_named s.namespace id was in
    let still : block_at new id ≡ None = stays_gone s.namespace new (edit_goes_on s.namespace edit applies) id gone
    (due_not_awaiting s.namespace id 0 gone (shows.known refl m is)) in
    both_ways _ (ap is_some still) now) in
    record {
      replica = edit_replica (is_named s.namespace id) (is_named new id) (s.replica dn id) (has last) shows.replica fresh;
      order = edit_order (is_named s.namespace id) (is_named new id) (s.has_order dn id) (s.replica dn id) (has last) shows.replica shows.order fresh;
      known = λ unflushed m is. stays (shows.known refl m is);
    }

-- ---- a message. a: whether the block is named, b: the same of the message's block, hit: whether the message is about this DataNode and block

at_if : {A : Type 0} (b : Bool) (f g : ℕ → ℕ → A) (x y : ℕ) → (if b then f else g) x y ≡ (if b then f x y else g x y)
at_if true f g x y = refl
at_if false f g x y = refl

message_replica : (hit a b : Bool) (r h : Option Replica) (said : Option Replica) → (hit ≡ true → b ≡ a) → r ≡ cond a h None →
    cond b (cond hit said r) r ≡ cond a (cond hit said h) None
message_replica true true true r h said same e = refl
message_replica true true false r h said same e = absurd (both_ways _ refl (same refl))
message_replica true false true r h said same e = absurd (both_ways _ (same refl) refl)
message_replica true false false r h said same e = e
message_replica false a true r h said same e = e
message_replica false a false r h said same e = e

message_order : (hit a b : Bool) (o : Bool) (h said : Option Replica) → (hit ≡ true → b ≡ a) → o ≡ cond a false (is_some h) →
    cond b o (cond hit (is_some said) o) ≡ cond a false (is_some (cond hit said h))
message_order true true true o h said same e = e
message_order true true false o h said same e = absurd (both_ways _ refl (same refl))
message_order true false true o h said same e = absurd (both_ways _ (same refl) refl)
message_order true false false o h said same e = refl
message_order false a true o h said same e = e
message_order false a false o h said same e = e

has_if : (hit : Bool) (m : Message) (last : Option Message) → cond hit (reported m) (has last) ≡ has (cond hit (Some m) last)
has_if true m last = refl
has_if false m last = refl

shows_message : (dn id : ℕ) (s : Sequential) (last : Option Message) (m : Message) (flushed now_flushed : Bool) →
    (now_flushed ≡ false → (flushed ≡ false) × (due_in s.namespace m.block m.stamp ≡ true)) → Shows dn id s last flushed →
    Shows dn id (after_item s m) (if (dn == m.dn) && (id == m.block) then Some m else last) now_flushed
shows_message dn id s last m flushed now_flushed not_yet shows =
    let hit = (dn == m.dn) && (id == m.block) in
    let same : hit ≡ true → is_named s.namespace m.block ≡ is_named s.namespace id = λ h. ap (is_named s.namespace) (sym (eqb-true _ _ (and_parts _ _ h).1)) in
    record {
      replica = at_if (is_named s.namespace m.block) (set_at m.dn m.block (reported m) s.replica) s.replica dn id
          ∙ message_replica hit (is_named s.namespace id) (is_named s.namespace m.block) (s.replica dn id) (has last) (reported m) same shows.replica
          ∙ ap (λ h. cond (is_named s.namespace id) h None) (has_if hit m last);
      order = at_if (is_named s.namespace m.block) s.has_order (set_at m.dn m.block (is_some (reported m)) s.has_order) dn id
          ∙ message_order hit (is_named s.namespace id) (is_named s.namespace m.block) (s.has_order dn id) (has last) (reported m) same shows.order
          ∙ ap (λ h. cond (is_named s.namespace id) false (is_some h)) (has_if hit m last);
      known = λ unflushed y is. elim (cases_Bool hit) [
        | inl h ↦ subst (λ k. due_in s.namespace k 0 ≡ true) (sym (eqb-true _ _ (and_parts _ _ h).1))
            (due_with_none s.namespace m.block m.stamp (not_yet unflushed).1)
        | inr h ↦ shows.known (not_yet unflushed).0 y (sym (cond-false hit (Some m) last h) ∙ is)
      ];
    }

may_due : (start : Namespace) (txs : List Tx) (lanes : Lanes) (before : History) (cause : Cause) (m : Message) (n : Namespace) →
    n ≡ namespace_at start txs before →
    is_flush (processed cause m) ≡ false → IsSent lanes m → MayBeProcessed start txs lanes before cause m → due_in n m.block m.stamp ≡ true
may_due start txs lanes before Due m n at not_yet sent may =
    subst (λ y. due_in y m.block m.stamp ≡ true) (sym at) (free_is_due (namespace_at start txs before) lanes m sent may)
may_due start txs lanes before Flush m n at not_yet sent may = absurd (both_ways _ not_yet refl)

-- ---- a whole history

module _ (start : Namespace) (base : ℕ) (txs : List Tx) (lanes : Lanes) (whole : History) (along : DueAlong start txs)
    (log : IsLog start base txs) (in_order : applied_txids whole ≡ map (λ tx. tx.txid) txs) (dn id : ℕ) where
  abbrev pub ShowsAtEnd : Sequential → Option Message → Type 0
  ShowsAtEnd s last = (s.namespace ≡ namespace_at start txs whole) × Shows dn id s last (list_any is_flush whole)

  pub walk : (before events : History) (s : Sequential) (last : Option Message) → before ++ events ≡ whole → EachAfter (Tells start txs lanes) before events →
      EachAfter NoFlushBefore before events → s.namespace ≡ namespace_at start txs before → Shows dn id s last (list_any is_flush before) →
      ShowsAtEnd (replay_from txs lanes s events) (last_done lanes dn id last events)
  walk before [] s last is told late at shows = (
    at ∙ ap (namespace_at start txs) (sym (append-nil before) ∙ is),
    subst (λ h. Shows dn id s last (list_any is_flush h)) (sym (append-nil before) ∙ is) shows,
  )
  walk before (Applied txid ∷ events) s last is told late at shows =
      let split : applied_txids before ++ txid ∷ applied_txids events ≡ map (λ tx. tx.txid) txs =
      sym (filter_map-append applied_txid before (Applied txid ∷ events)) ∙ ap applied_txids is ∙ in_order in
      let unflushed : list_any is_flush before ≡ false = late.0 in
      let still : list_any is_flush (before ++ Applied txid ∷ []) ≡ false = any_push is_flush before (Applied txid) unflushed refl in
      let t = next_tx txs (applied_txids before) txid (applied_txids events) split in
      let k = length (applied_txids before) in
      let found : find (λ tx. tx.txid == txid) txs ≡ Some t.0 =
      subst (λ n. find (λ tx. tx.txid == n) txs ≡ Some t.0) t.2 (found_tx start base txs k t.0 log t.1) in
      let applies : refusal s.namespace t.0.edit ≡ None = subst (λ n. refusal n t.0.edit ≡ None) (sym at) (applies_at start base txs k t.0 log t.1) in
      let next_at : namespace_after start (take (k + 1) txs) ≡ effect s.namespace t.0.edit =
      ap (namespace_after start) (take_at txs k t.0 t.1) ∙ namespace_after-push start (take k txs) t.0 ∙ ap (λ n. effect n t.0.edit) (sym at) in
      let next : effect s.namespace t.0.edit ≡ namespace_at start txs (before ++ Applied txid ∷ []) =
      sym next_at ∙ ap (λ i. namespace_after start (take i txs)) (sym (applied_more before txid)) in
      let stays : due_in s.namespace id 0 ≡ true → due_in (effect s.namespace t.0.edit) id 0 ≡ true = λ due.
      subst (λ n. due_in n id 0 ≡ true) next_at (along k (k + 1) id 0 (omega arith) (subst (λ n. due_in n id 0 ≡ true) at due)) in
      subst (λ z. ShowsAtEnd (replay_from txs lanes z events) (last_done lanes dn id last events)) (ap (apply_found s) (sym found))
      (walk (before ++ Applied txid ∷ []) events (after_edit s (effect s.namespace t.0.edit)) last
      (append_assoc before (Applied txid ∷ []) events ∙ is) told.1 late.1 next
      (subst (Shows dn id (after_edit s (effect s.namespace t.0.edit)) last) (sym still)
      (shows_edit dn id s last t.0.edit applies stays (subst (Shows dn id s last) unflushed shows))))
  walk before (Processed d k b cause ∷ events) s last is told late at shows =
      let m = told.0.0 in
      let event : Event = Processed d k b cause in
      let found : message_of lanes d k b ≡ Some m = named_found lanes m d k b told.0.1 told.0.2 told.0.3 told.0.4 in
      let not_yet : list_any is_flush (before ++ event ∷ []) ≡ false → (list_any is_flush before ≡ false)
      × (due_in s.namespace m.block m.stamp ≡ true) = λ none_yet. (
        any_left is_flush before (event ∷ []) none_yet,
        may_due start txs lanes before cause m s.namespace at (or_parts _ _ (any_right is_flush before (event ∷ []) none_yet)).0 told.0.1 told.0.5,
      ) in
      let said : (if (dn == m.dn) && (id == m.block) then Some m else last) ≡ done_by lanes dn id last event =
      λ j. if (dn == told.0.2 j) && (id == told.0.4 j) then sym found j else last in
      subst (λ z. ShowsAtEnd (replay_from txs lanes z events) (last_done lanes dn id (done_by lanes dn id last event) events))
      (ap (process_found s) (sym found))
      (walk (before ++ event ∷ []) events (after_item s m) (done_by lanes dn id last event) (append_assoc before (event ∷ []) events ∙ is) told.1 late.1
      (at ∙ sym (same_moment start txs before d k b cause))
      (subst (λ o. Shows dn id (after_item s m) o (list_any is_flush (before ++ event ∷ []))) said
      (shows_message dn id s last m (list_any is_flush before) (list_any is_flush (before ++ event ∷ [])) not_yet shows)))
