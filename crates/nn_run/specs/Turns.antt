-- The history of a standby that follows the lines of a scenario in their order, on one thread.
use Rattle.std.specs.Prelude.{◌+◌, ◌==◌, List, [], ◌∷◌, drop, if◌then◌else◌}
use Rattle.nn_types.specs.declared.tx.Tx.{Tx}
use Rattle.nn_model.specs.History.{History}
use Rattle.nn_model.specs.Stands.{StandbyState, fresh}
use Rattle.nn_shadow.specs.Calls.{applied_to, received, flushed}
use Rattle.nn_scenario.specs.declared.steps.Step.{Step}
use Rattle.nn_scenario.specs.declared.steps.Step.TheVariants as step
use Rattle.nn_run.specs.Start.{Start}

-- the line of the next transaction applies it, and the line of any other does nothing
abbrev pub line_applied : StandbyState → Tx → StandbyState
line_applied x tx = if tx.txid == x.last + 1 then applied_to x tx else x

-- the line of the first of these transactions, where there is one
abbrev pub next_applied : StandbyState → List Tx → StandbyState
next_applied x [] = x
next_applied x (tx ∷ txs) = line_applied x tx

-- each edit step is the line of the next of these transactions, and each message's line hands it over
abbrev pub in_turn : StandbyState → List Tx → List Step → StandbyState
in_turn x txs [] = x
in_turn x txs (step.Edit ∷ steps) = in_turn (next_applied x txs) (drop 1 txs) steps
in_turn x txs (step.Message m ∷ steps) = in_turn (received x m) txs steps

-- and then the flush
abbrev pub history_in_turn : Start → List Tx → List Step → History
history_in_turn start txs steps = (flushed (in_turn (fresh start.namespace start.txid) txs steps)).history
