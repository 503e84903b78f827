-- Steps told apart, and one more of them.
use Rattle.std.proofs.Common.{◌≡◌, List, [], ◌∷◌, ◌++◌, Bool, true, false, length, refl, ap}
use Rattle.nn_types.specs.declared.report.Message.{Message}
use Rattle.nn_scenario.specs.StepList.{told, AreTold}
use Rattle.nn_scenario.specs.declared.steps.Step.TheVariants as step

pub edit_told : (kinds : List Bool) (ms : List Message) → AreTold kinds ms → AreTold (kinds ++ false ∷ []) ms × (told (kinds ++ false ∷ []) ms ≡ told kinds ms ++ step.Edit ∷ [])
edit_told [] [] h = (tt, refl)
edit_told [] (m ∷ ms) h = absurd h
edit_told (false ∷ kinds) ms h = let later = edit_told kinds ms h in (later.0, ap (λ steps. step.Edit ∷ steps) later.1)
edit_told (true ∷ kinds) [] h = absurd h
edit_told (true ∷ kinds) (m ∷ ms) h = let later = edit_told kinds ms h in (later.0, ap (λ steps. step.Message m ∷ steps) later.1)

pub message_told : (kinds : List Bool) (ms : List Message) (x : Message) → AreTold kinds ms
    → AreTold (kinds ++ true ∷ []) (ms ++ x ∷ []) × (told (kinds ++ true ∷ []) (ms ++ x ∷ []) ≡ told kinds ms ++ step.Message x ∷ [])
message_told [] [] x h = (tt, refl)
message_told [] (m ∷ ms) x h = absurd h
message_told (false ∷ kinds) ms x h = let later = message_told kinds ms x h in (later.0, ap (λ steps. step.Edit ∷ steps) later.1)
message_told (true ∷ kinds) [] x h = absurd h
message_told (true ∷ kinds) (m ∷ ms) x h = let later = message_told kinds ms x h in (later.0, ap (λ steps. step.Message m ∷ steps) later.1)

pub told_length : (kinds : List Bool) (ms : List Message) → AreTold kinds ms → length (told kinds ms) ≡ length kinds
told_length [] ms h = refl
told_length (false ∷ kinds) ms h = rw (told_length kinds ms h) refl
told_length (true ∷ kinds) [] h = absurd h
told_length (true ∷ kinds) (m ∷ ms) h = rw (told_length kinds ms h) refl
