-- Several items of one DataNode, taken in at once.
use Rattle.std.specs.Prelude.{◌≡◌, ℕ, not, List, ◌++◌, ◌⊎◌, map, filter, take, length, ◌==◌, if◌then◌else◌}
use Rattle.nn_types.specs.declared.report.Message.{Message}
use Rattle.nn_types.specs.declared.event.Cause.TheVariants.{Due}
use Rattle.nn_model.specs.Namespace.{Namespace}
use Rattle.nn_model.specs.History.{History, processed}
use Rattle.nn_model.specs.Stands.{StandbyState}
use Rattle.nn_model.specs.Items.{with_items}
use Rattle.nn_postponed.specs.Queues.{all_queued}
use Rattle.nn_postponed.specs.Release.{must_wait}
use Rattle.nn_replicas.specs.Table.{Replicas}
use Rattle.nn_shadow.specs.declared.fault.Handed.{Handed}
use Rattle.nn_shadow.specs.declared.intake.Intake.{Intake}
use Rattle.nn_shadow.specs.Calls.{is_due_in, processing, waiting, due_now}
use Rattle.nn_shadow.specs.Steps.{messages_taken, all_placed}
use Rattle.nn_shadow.specs.Room.{all_given_back, item_blocks}

-- those that have to wait were held, and then the others were processed
abbrev pub taken_at_once : StandbyState → List Message → StandbyState
taken_at_once x items = processing Due (due_now x items) (record x { held = all_queued x.held (waiting x items) })

-- and the DataNode has what they say. The message that they are of is not noted yet
abbrev pub items_taken : StandbyState → ℕ → List Message → StandbyState
items_taken x dn items =
    record (taken_at_once x items) { had = λ d. if d == dn then record (x.had d) { has = with_items (x.had d).has items } else x.had d }

-- ---- The same of the parts of the code.

-- those of the items that need not wait, and those that have to
abbrev pub free_of : Namespace → List Message → List Message → List Message
free_of n held items = filter (λ i. not (must_wait (is_due_in n) held i)) items

abbrev pub stuck_of : Namespace → List Message → List Message → List Message
stuck_of n held items = filter (must_wait (is_due_in n) held) items

abbrev pub handed_counts : Namespace → List Message → List Message → Handed
handed_counts n held items = record { processed = length (free_of n held items); held = length (stuck_of n held items) }

-- history, held items and table after these items were taken in, and the room that they left idle was given back
pub record TakesItems (n : Namespace) (items : List Message) (h : History) (was : List Message) (t : Replicas) (h_now : History) (now : List Message) (t_now : Replicas) : Type 0 where
  pub history : h_now ≡ h ++ map (processed Due) (free_of n was items)
  pub held : now ≡ all_queued was (stuck_of n was items)
  pub table : t_now ≡ all_given_back now (messages_taken (all_placed t items) (free_of n was items)) (item_blocks items)

-- none was taken in: the table is as it was, or the first ones got their room and it was given back
pub record LeavesItems (items : List Message) (h : History) (was : List Message) (t : Replicas) (h_now : History) (now : List Message) (t_now : Replicas) : Type 0 where
  pub history : h_now ≡ h
  pub held : now ≡ was
  pub table : (t_now ≡ t) ⊎ ((count : ℕ) × (t_now ≡ all_given_back was (all_placed t (take count items)) (item_blocks items)))

-- the same of the whole intake
abbrev pub TakesIn : Namespace → List Message → Intake → Intake → Type 0
TakesIn n items was now = TakesItems n items was.history.items was.held was.table now.history.items now.held now.table

abbrev pub TakesNone : List Message → Intake → Intake → Type 0
TakesNone items was now = LeavesItems items was.history.items was.held was.table now.history.items now.held now.table
