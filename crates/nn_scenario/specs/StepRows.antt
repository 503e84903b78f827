-- Scenarios of two DataNodes, with their steps.
use Rattle.std.specs.Prelude.{◌≡◌, ℕ, List, [], ◌∷◌, codes, refl}
use Rattle.nn_types.specs.declared.report.Kind.TheVariants.{Received}
use Rattle.nn_types.specs.declared.report.Report.{Report}
use Rattle.nn_types.specs.declared.profile.Profile.TheVariants.{One}
use Rattle.nn_types.specs.declared.edit.Edit.TheVariants.{StartSegment}
use Rattle.nn_scenario.specs.Scenario.{ScenarioLine, edit, report, edit_lines, messages_of, steps_of}
use Rattle.nn_scenario.specs.Steps.{message, datanode_count, lanes_of_steps}
use Rattle.nn_scenario.specs.declared.steps.Step.TheVariants as step

abbrev about : ℕ → ℕ → Report
about dn block = record { dn = dn; block = block; stamp = 1001; len = 0; kind = Received }

abbrev mark : ScenarioLine
mark = edit (record { text = codes "start"; tx = record { txid = 1; edit = StartSegment One } })

abbrev three_reports : List ScenarioLine
three_reports = report (about 2 5) ∷ mark ∷ report (about 1 6) ∷ report (about 2 7) ∷ []

-- each DataNode counts by itself, and edits take no number
numbered_apart : steps_of three_reports
    ≡ step.Message (message (about 2 5) 1) ∷ step.Edit ∷ step.Message (message (about 1 6) 1) ∷ step.Message (message (about 2 7) 2) ∷ []
numbered_apart = refl

one_lane : messages_of three_reports 2 ≡ message (about 2 5) 1 ∷ message (about 2 7) 2 ∷ []
one_lane = refl

same_lane : lanes_of_steps (steps_of three_reports) 2 ≡ messages_of three_reports 2
same_lane = refl

nobody_else : messages_of three_reports 3 ≡ []
nobody_else = refl

greatest : datanode_count (steps_of three_reports) ≡ 2
greatest = refl

-- where nobody speaks there is one DataNode still
at_least_one : datanode_count (steps_of (mark ∷ [])) ≡ 1
at_least_one = refl

edits_alone : edit_lines three_reports ≡ edit_lines (mark ∷ [])
edits_alone = refl
