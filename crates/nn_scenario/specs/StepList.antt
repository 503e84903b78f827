-- Steps told apart: of each whether it is a message, and the messages. For private clauses.
use Rattle.std.specs.Prelude.{List, [], ◌∷◌, Bool, true, false}
use Rattle.nn_types.specs.declared.report.Message.{Message}
use Rattle.nn_scenario.specs.declared.steps.Step.{Step}
use Rattle.nn_scenario.specs.declared.steps.Step.TheVariants as step

-- the steps; a step whose message is not there is left out
abbrev pub told : List Bool → List Message → List Step
told [] ms = []
told (false ∷ kinds) ms = step.Edit ∷ told kinds ms
told (true ∷ kinds) [] = told kinds []
told (true ∷ kinds) (m ∷ ms) = step.Message m ∷ told kinds ms

-- there are as many messages as steps that are one
abbrev pub AreTold : List Bool → List Message → Type 0
AreTold [] [] = Unit {0}
AreTold [] (m ∷ ms) = ⊥
AreTold (false ∷ kinds) ms = AreTold kinds ms
AreTold (true ∷ kinds) [] = ⊥
AreTold (true ∷ kinds) (m ∷ ms) = AreTold kinds ms
