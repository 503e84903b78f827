use Rattle.std.proofs.Common.{◌≡◌, ℕ, ◌-◌, ◌≤◌, ◌++◌, List, length, map, ap, sym, ◌∙◌, refl, arith}
use Rattle.nn_types.specs.declared.report.Message.{Message}
use Rattle.nn_types.specs.declared.event.Cause.TheVariants.{Due}
use Rattle.nn_model.specs.Namespace.{Namespace}
use Rattle.nn_model.specs.History.{processed}
use Rattle.nn_replicas.specs.Calls.{is_placed}
use Rattle.nn_postponed.specs.Queues.{all_queued}
use Rattle.nn_postponed.specs.Release.{must_wait}
use Rattle.nn_shadow.specs.Calls.{is_due_in}
use Rattle.nn_shadow.specs.Items.{free_of, stuck_of}
use Rattle.nn_shadow.specs.Steps.{messages_taken, all_placed, not_held, AreApart}
use Rattle.nn_shadow.proofs.AtOnce.{free_then}
use Rattle.nn_shadow.proofs.ItemsTaken.{all_have_room, on_err}
use Rattle.nn_shadow.proofs.Rest.{parts_length}
use Rattle.std.specs.Prelude.{take}
use Rattle.std.proofs.Math.Seq.{take-length}
use Rattle.nn_replicas.specs.Table.{Replicas}
use Rattle.nn_shadow.proofs.intake.Intake.process_or_hold_all.Goals as goal

module _ (n : Namespace) (was items : List Message) where
  -- how many have to wait, and how many the others are
  free_count : (all waiting : ℕ) → all ≡ length items → waiting ≡ length (stuck_of n was items) → all - waiting ≡ length (free_of n was items)
  free_count all waiting is_all is_waiting = omega (arith, is_all, is_waiting, parts_length (must_wait (is_due_in n) was) items)

  no_more : (all waiting : ℕ) → all ≡ length items → waiting ≡ length (stuck_of n was items) → waiting ≤ all
  no_more all waiting is_all is_waiting = omega (arith, is_all, is_waiting, parts_length (must_wait (is_due_in n) was) items)

  -- those that are not held once all that have to wait are
  free_now : (held : List Message) → AreApart items → held ≡ all_queued was (stuck_of n was items) → not_held held items ≡ free_of n was items
  free_now held apart is = ap (λ h. not_held h items) is ∙ free_then n was items apart

pub overflow_sub-due : goal.overflow_sub-due
overflow_sub-due c =
    no_more c.args.namespace.now c.args.self.now.held c.args.items.now (length c.args.items.now) c.len.result refl
    (c.len.ensures ∙ c.in_ok-waiting.waiting.ok.0 ∙ ap length c.in_ok-waiting.ensures)

pub process_due-requires-clause-room : goal.process_due-requires-clause-room
process_due-requires-clause-room c =
    let count = free_count c.args.namespace.now c.args.self.now.held c.args.items.now (length c.args.items.now) c.len.result refl
    (c.len.ensures ∙ c.in_ok-waiting.waiting.ok.0 ∙ ap length c.in_ok-waiting.ensures) in
    let left = free_now c.args.namespace.now c.args.self.now.held c.args.items.now c.hold_all.new.self c.requires.apart
    (c.in_ok-hold_all.ensures.ok ∙ ap (all_queued c.args.self.now.held) (c.as_slice.ensures.value ∙ c.in_ok-waiting.ensures)) in
    omega (arith, ap length left, count, c.in_ok-reserve.ensures.ok, c.in_ok-reserve.ensures.len)

pub process_due-requires-clause-placed : goal.process_due-requires-clause-placed
process_due-requires-clause-placed c m here =
    ap (λ t. is_placed t m.dn m.block) c.in_ok-place_all.ensures.ok ∙ all_have_room c.args.self.now.table c.args.items.now m here

pub returns-clause-told : goal.returns-clause-told
returns-clause-told c =
    let held = c.in_ok-hold_all.ensures.ok ∙ ap (all_queued c.args.self.now.held) (c.as_slice.ensures.value ∙ c.in_ok-waiting.ensures) in
    let free = free_now c.args.namespace.now c.args.self.now.held c.args.items.now c.hold_all.new.self c.requires.apart held in
    c.process_due.ensures.told ∙ (λ j. c.in_ok-reserve.ensures.items j ++ map (processed Due) (free j))

pub returns-clause-held : goal.returns-clause-held
returns-clause-held c = c.in_ok-hold_all.ensures.ok ∙ ap (all_queued c.args.self.now.held) (c.as_slice.ensures.value ∙ c.in_ok-waiting.ensures)

pub returns-clause-table : goal.returns-clause-table
returns-clause-table c =
    let held = c.in_ok-hold_all.ensures.ok ∙ ap (all_queued c.args.self.now.held) (c.as_slice.ensures.value ∙ c.in_ok-waiting.ensures) in
    let free = free_now c.args.namespace.now c.args.self.now.held c.args.items.now c.hold_all.new.self c.requires.apart held in
    c.process_due.ensures.table ∙ (λ j. messages_taken (c.in_ok-place_all.ensures.ok j) (free j))

pub returns-clause-handed : goal.returns-clause-handed
returns-clause-handed c =
    let count = free_count c.args.namespace.now c.args.self.now.held c.args.items.now (length c.args.items.now) c.len.result refl
    (c.len.ensures ∙ c.in_ok-waiting.waiting.ok.0 ∙ ap length c.in_ok-waiting.ensures) in
    λ j. record { processed = count j; held = (c.len-2.ensures ∙ c.in_ok-waiting.waiting.ok.0 ∙ ap length c.in_ok-waiting.ensures) j }

-- out of memory, all have their room
all_of : (t new : Replicas) (items : List Message) → new ≡ all_placed t items → (count : ℕ) × (new ≡ all_placed t (take count items))
all_of t new items is = (length items, is ∙ ap (all_placed t) (sym (take-length items)))

pub returns-in_err-waiting-clause-placed : goal.returns-in_err-waiting-clause-placed
returns-in_err-waiting-clause-placed c = on_err c.from_residual-in_err-waiting.result _ (all_of c.args.self.now.table c.place_all.new.table c.args.items.now c.in_ok-place_all.ensures.ok)

pub returns-in_err-reserve-clause-placed : goal.returns-in_err-reserve-clause-placed
returns-in_err-reserve-clause-placed c = on_err c.from_residual-in_err-reserve.result _ (all_of c.args.self.now.table c.place_all.new.table c.args.items.now c.in_ok-place_all.ensures.ok)

pub returns-in_err-hold_all-clause-placed : goal.returns-in_err-hold_all-clause-placed
returns-in_err-hold_all-clause-placed c = on_err c.from_residual-in_err-hold_all.result _ (all_of c.args.self.now.table c.place_all.new.table c.args.items.now c.in_ok-place_all.ensures.ok)
