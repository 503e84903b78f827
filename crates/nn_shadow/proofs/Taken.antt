-- A standby of which the history was taken goes on as if it had kept it.
use Rattle.std.proofs.Common.{◌≡◌, true, false, cond, List, [], ◌∷◌, ◌++◌, map, refl, ap, ◌∙◌, append_assoc, append-nil}
use Rattle.nn_types.specs.declared.report.Message.{Message}
use Rattle.nn_types.specs.declared.event.Event.TheVariants.{Applied}
use Rattle.nn_types.specs.declared.event.Cause.TheVariants.{Due, Flush}
use Rattle.nn_model.specs.Apply.{effect}
use Rattle.nn_model.specs.History.{History, processed}
use Rattle.nn_model.specs.Stands.{StandbyState}
use Rattle.nn_postponed.specs.Queues.{queued}
use Rattle.nn_postponed.specs.Release.{freed}
use Rattle.nn_shadow.specs.Calls.{is_due_in, processing, applied_to, waits, taken_in, all_taken_in, items_added, numbers_after, node_states_after, flushed, with_past}
use Rattle.nn_shadow.specs.Laws.{AppliesAfter, ReceivesAfter, FlushesAfter, TakesAfter}

pub applies_after : AppliesAfter
applies_after past x tx =
    let done = map (processed Due) (freed (is_due_in (effect x.namespace tx.edit)) [] x.held) in
    ap (λ (h : History). record (applied_to x tx) { history = h })
    (ap (λ (h : History). h ++ done) (append_assoc past x.history (Applied tx.txid ∷ [])) ∙ append_assoc past (x.history ++ Applied tx.txid ∷ []) done)

taken_after : (past : History) (x : StandbyState) (i : Message) → taken_in (with_past past x) i ≡ with_past past (taken_in x i)
taken_after past x i = elim (waits x i) as (λ b. cond b (record (with_past past x) { held = queued i x.held }) (processing Due (i ∷ []) (with_past past x))
    ≡ with_past past (cond b (record x { held = queued i x.held }) (processing Due (i ∷ []) x))) [
      | true ↦ refl
      | false ↦ ap (λ (h : History). record (processing Due (i ∷ []) x) { history = h }) (append_assoc past x.history (processed Due i ∷ []))
    ]

all_after : (past : History) (x : StandbyState) (new : List Message) → all_taken_in (with_past past x) new ≡ with_past past (all_taken_in x new)
all_after past x [] = refl
all_after past x (i ∷ new) = ap (λ z. all_taken_in z new) (taken_after past x i) ∙ all_after past (taken_in x i) new

pub receives_after : ReceivesAfter
receives_after past x m =
    ap (λ (z : StandbyState). record z { last_number = numbers_after x.last_number m; had = node_states_after x.had m }) (all_after past x (items_added x m))

pub flushes_after : FlushesAfter
flushes_after past x = ap (λ (h : History). record (flushed x) { history = h }) (append_assoc past x.history (map (processed Flush) x.held))

pub takes_after : TakesAfter
takes_after past x = ap (λ (h : History). record x { history = h }) (append-nil (past ++ x.history))
