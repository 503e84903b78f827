-- One more line, in its turn; and a standby whose events were forgotten.
use Rattle.std.proofs.Common.{◌≡◌, Bool, true, false, cond, ◌+◌, List, [], ◌∷◌, ◌++◌, length, drop, refl, sym, ap, arith}
use Rattle.std.specs.Prelude.{◌==◌, ◌&&◌}
use Rattle.nn_types.specs.declared.report.Message.{Message}
use Rattle.nn_types.specs.declared.tx.Tx.{Tx}
use Rattle.nn_model.specs.History.{History}
use Rattle.nn_model.specs.Stands.{StandbyState}
use Rattle.nn_shadow.specs.Calls.{with_past, applied_to, received}
use Rattle.nn_shadow.proofs.Taken.{applies_after}
use Rattle.nn_scenario.specs.Steps.{edit_count}
use Rattle.nn_scenario.specs.declared.steps.Step.{Step}
use Rattle.nn_scenario.specs.declared.steps.Step.TheVariants as step
use Rattle.nn_listing.specs.Trail.{history_text}
use Rattle.nn_run.specs.Output.{Printed, with_history}
use Rattle.nn_run.specs.Turns.{line_applied, next_applied, in_turn}

pub one_more_edit : (x : StandbyState) (txs : List Tx) (steps : List Step) (tx : Tx) → edit_count steps ≡ length txs
    → in_turn x (txs ++ tx ∷ []) (steps ++ step.Edit ∷ []) ≡ line_applied (in_turn x txs steps) tx
one_more_edit x [] [] tx even = refl
one_more_edit x (t ∷ txs) [] tx even = absurd (omega (arith, even))
one_more_edit x [] (step.Edit ∷ steps) tx even = absurd (omega (arith, even))
one_more_edit x (t ∷ txs) (step.Edit ∷ steps) tx even = one_more_edit (line_applied x t) txs steps tx (omega (arith, even))
one_more_edit x [] (step.Message m ∷ steps) tx even = one_more_edit (received x m) [] steps tx even
one_more_edit x (t ∷ txs) (step.Message m ∷ steps) tx even = one_more_edit (received x m) (t ∷ txs) steps tx even

pub one_more_message : (x : StandbyState) (txs : List Tx) (steps : List Step) (m : Message) → in_turn x txs (steps ++ step.Message m ∷ []) ≡ received (in_turn x txs steps) m
one_more_message x txs [] m = refl
one_more_message x txs (step.Edit ∷ steps) m = one_more_message (next_applied x txs) (drop 1 txs) steps m
one_more_message x txs (step.Message k ∷ steps) m = one_more_message (received x k) txs steps m

pub edits_and_one : (steps : List Step) → edit_count (steps ++ step.Edit ∷ []) ≡ edit_count steps + 1
edits_and_one [] = refl
edits_and_one (step.Edit ∷ steps) = omega (arith, edits_and_one steps)
edits_and_one (step.Message m ∷ steps) = edits_and_one steps

pub edits_and_message : (steps : List Step) (m : Message) → edit_count (steps ++ step.Message m ∷ []) ≡ edit_count steps
edits_and_message [] m = refl
edits_and_message (step.Edit ∷ steps) m = omega (arith, edits_and_message steps m)
edits_and_message (step.Message k ∷ steps) m = edits_and_message steps m

-- ---- Events that were forgotten.

-- a line's edit does the same behind a past
pub applied_after : (past : History) (x : StandbyState) (tx : Tx) → line_applied (with_past past x) tx ≡ with_past past (line_applied x tx)
applied_after past x tx = elim (tx.txid == x.last + 1) as (λ b. cond b (applied_to (with_past past x) tx) (with_past past x) ≡ with_past past (cond b (applied_to x tx) x)) [
  | true ↦ applies_after past x tx
  | false ↦ refl
]

-- a history that is asked for has no past, and else none is told
pub told_behind : (asked : Bool) (past events : History) (p : Printed) → (asked ≡ true → past ≡ []) → with_history asked events p ≡ with_history asked (past ++ events) p
told_behind true past events p kept = ap (λ h. with_history true (h ++ events) p) (sym (kept refl))
told_behind false past events p kept = elim (p.status == 0) as (λ b. cond (b && false) (record { text = history_text events ++ p.text; status = 0; error = [] }) p
    ≡ cond (b && false) (record { text = history_text (past ++ events) ++ p.text; status = 0; error = [] }) p) [
      | true ↦ refl
      | false ↦ refl
    ]
