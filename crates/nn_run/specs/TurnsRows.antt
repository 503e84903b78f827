-- Histories of lines, computed.
use Rattle.std.specs.Prelude.{◌≡◌, List, [], ◌∷◌, ◌++◌, take, drop, refl}
use Rattle.nn_types.specs.declared.report.Kind.TheVariants.{Received}
use Rattle.nn_types.specs.declared.event.Event.TheVariants.{Applied, Processed}
use Rattle.nn_types.specs.declared.event.Cause.TheVariants.{Flush}
use Rattle.nn_types.specs.declared.edit.Edit.TheVariants.{SetGenstamp}
use Rattle.nn_types.specs.declared.tx.Tx.{Tx}
use Rattle.nn_model.specs.History.{History}
use Rattle.nn_model.specs.MessageRows.{tx, b, message, early_log, early_report, early_history}
use Rattle.nn_scenario.specs.declared.steps.Step.{Step}
use Rattle.nn_scenario.specs.declared.steps.Step.TheVariants.{Edit, Message}
use Rattle.nn_run.specs.Start.{from_root}
use Rattle.nn_run.specs.Turns.{history_in_turn}

-- so many lines of edits
abbrev edits : List Tx → List Step
edits [] = []
edits (t ∷ txs) = Edit ∷ edits txs

-- these lines, a report, and then those
abbrev reported_between : List Tx → List Tx → History
reported_between before behind = history_in_turn from_root (before ++ behind) (edits before ++ Message early_report ∷ edits behind)

-- the report comes before the line that names its block, and is processed right behind it
comes_early : reported_between (take 4 early_log) (drop 4 early_log) ≡ early_history
comes_early = refl

-- the line of a transaction that was applied before does nothing: it does not apply the next one before the report
old_line : reported_between (take 5 early_log ++ tx 2 (SetGenstamp 1001) ∷ []) (drop 5 early_log) ≡ early_history
old_line = refl

-- nor does the line of one above the next
line_above : reported_between (take 4 early_log ++ tx 6 (SetGenstamp 1002) ∷ []) (drop 4 early_log) ≡ early_history
line_above = refl

-- a report that no line names is flushed, with the number that it has
never_named : history_in_turn from_root (take 2 early_log) (Message (message 1 1 Received b 1001 5) ∷ edits (take 2 early_log)) ≡ Applied 1 ∷ Applied 2 ∷ Processed 1 1 b Flush ∷ []
never_named = refl

-- a run from an image passes over what it holds
from_an_image : history_in_turn (record from_root { txid = 1 }) (take 2 early_log) (edits (take 2 early_log)) ≡ Applied 2 ∷ []
from_an_image = refl
