-- Reports in memory, on small examples, computed.
use Rattle.std.specs.Prelude.{◌≡◌, ℕ, [], ◌∷◌, Some, None, refl}
use Rattle.nn_types.specs.declared.report.Message.{Message}
use Rattle.nn_types.specs.declared.report.Report.{Report}
use Rattle.nn_types.specs.declared.report.Kind.TheVariants.{Received}
use Rattle.nn_drive.specs.Reports.{sent_after}
use Rattle.nn_scenario.specs.declared.steps.Step.TheVariants as step
use Rattle.nn_run.specs.InMemory.{GivesReport, with_step}

abbrev message : ℕ → ℕ → ℕ → Message
message dn number block = record { dn = dn; number = number; block = block; stamp = 1001; len = 5; kind = Received }

abbrev report : ℕ → ℕ → Report
report dn block = record { dn = dn; block = block; stamp = 1001; len = 5; kind = Received }

-- each message goes after those of its DataNode, and an edit changes nothing
behind_its_own : with_step (with_step (with_step ([] ∷ [] ∷ []) (step.Message (message 2 1 7))) step.Edit) (step.Message (message 2 2 8)) ≡ [] ∷ (report 2 7 ∷ report 2 8 ∷ []) ∷ []
behind_its_own = refl

-- sent one after another they are the messages again
sent_again : sent_after 2 [] (report 2 7 ∷ report 2 8 ∷ []) ≡ message 2 1 7 ∷ message 2 2 8 ∷ []
sent_again = refl

gives_the_first : GivesReport (report 1 7 ∷ report 1 8 ∷ []) (Some (report 1 7)) (report 1 8 ∷ [])
gives_the_first = (refl, refl)

gives_none_at_the_end : GivesReport [] None []
gives_none_at_the_end = (refl, refl)
