-- Before its flush a standby adds no event of one, and the flush adds one for each item that it held.
use Rattle.std.proofs.Common.{◌≡◌, true, false, cond, List, [], ◌∷◌, ◌++◌, map, length, count_by, refl, sym, ap, ◌∙◌, subst}
use Rattle.std.proofs.lemmas.List.Sums.{length-filter}
use Rattle.nn_types.specs.declared.report.Message.{Message}
use Rattle.nn_types.specs.declared.tx.Tx.{Tx}
use Rattle.nn_types.specs.declared.event.Event.TheVariants.{Applied}
use Rattle.nn_types.specs.declared.event.Cause.TheVariants.{Due}
use Rattle.nn_model.specs.Apply.{effect}
use Rattle.nn_model.specs.History.{is_flush, processed, IsBeforeFlush}
use Rattle.nn_model.specs.Stands.{StandbyState}
use Rattle.nn_model.proofs.Events.{any-append}
use Rattle.nn_postponed.specs.Queues.{queued}
use Rattle.nn_postponed.specs.Release.{freed}
use Rattle.nn_shadow.specs.Calls.{is_due_in, processing, waits, taken_in, all_taken_in, items_added, flushed}
use Rattle.nn_shadow.specs.Contents.{Shadow, standby_of}
use Rattle.nn_shadow.proofs.Standings.{flush_tells_each}
use Rattle.nn_lane_standby.specs.Shadows.{ShowsSame, IsApplied, IsHanded, IsFlushed}

none_due : (ms : List Message) → IsBeforeFlush (map (processed Due) ms)
none_due [] = refl
none_due (m ∷ ms) = none_due ms

pub same_before : (x y : Shadow) → ShowsSame x y → IsBeforeFlush x.history → IsBeforeFlush y.history
same_before x y s h = subst (λ (z : StandbyState). IsBeforeFlush z.history) (sym s.standby) h

pub applied_before : (x y : Shadow) (tx : Tx) → IsApplied x tx y → IsBeforeFlush x.history → IsBeforeFlush y.history
applied_before x y tx a h =
    subst (λ (z : StandbyState). IsBeforeFlush z.history) (sym a.standby)
    (any-append is_flush (x.history ++ Applied tx.txid ∷ []) (map (processed Due) (freed (is_due_in (effect x.namespace tx.edit)) [] x.held))
    (any-append is_flush x.history (Applied tx.txid ∷ []) h refl) (none_due (freed (is_due_in (effect x.namespace tx.edit)) [] x.held)))

taken_before : (x : StandbyState) (m : Message) → IsBeforeFlush x.history → IsBeforeFlush (taken_in x m).history
taken_before x m h = elim (waits x m) as (λ b. IsBeforeFlush (cond b (record x { held = queued m x.held }) (processing Due (m ∷ []) x)).history) [
  | true ↦ h
  | false ↦ any-append is_flush x.history (processed Due m ∷ []) h refl
]

all_before : (x : StandbyState) (new : List Message) → IsBeforeFlush x.history → IsBeforeFlush (all_taken_in x new).history
all_before x [] h = h
all_before x (i ∷ new) h = all_before (taken_in x i) new (taken_before x i h)

pub handed_before : (x y : Shadow) (m : Message) → IsHanded x m y → IsBeforeFlush x.history → IsBeforeFlush y.history
handed_before x y m a h = subst (λ (z : StandbyState). IsBeforeFlush z.history) (sym a.standby) (all_before (standby_of x) (items_added (standby_of x) m) h)

pub flushed_count : (x y : Shadow) → IsFlushed x y → IsBeforeFlush x.history → length x.held ≡ count_by is_flush y.history
flushed_count x y f h =
    sym (flush_tells_each (standby_of x) h) ∙ length-filter is_flush (flushed (standby_of x)).history ∙ ap (λ (z : StandbyState). count_by is_flush z.history) (sym f.standby)
