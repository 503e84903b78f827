use Rattle.std.proofs.Common.{subst}
use Rattle.std.proofs.lemmas.Result.{IfOk-weaker, IfErr-weaker}
use Rattle.nn_drive.specs.Driven.{IsDriven, NotDriven}
use Rattle.nn_drive.proofs.Steps.{nothing_yet}
use Rattle.nn_segment.specs.Source.{GivesNext}
use Rattle.nn_run.specs.InMemory.{GivesReport}
use Rattle.nn_run.proofs.threads.drive_over.Goals as goal

pub returns-in_default-clause-err : goal.returns-in_default-clause-err
returns-in_default-clause-err g c = (c.args.segments.items, nothing_yet GivesNext (λ _. 0) c.args.segments.items c.args.standby)

pub returns-clause-ok : goal.returns-clause-ok
returns-clause-ok g c =
    IfOk-weaker c.drive.result _ _ (λ r. subst (λ s. IsDriven GivesNext (λ _. 0) GivesReport c.args.standby s c.args.workers.items r.0 r.1) c.new.ensures) c.drive.ensures.ok

pub returns-clause-err : goal.returns-clause-err
returns-clause-err g c =
    IfErr-weaker c.drive.result _ _ (λ fault. subst (λ s. NotDriven GivesNext (λ _. 0) c.args.standby s fault) c.new.ensures) c.drive.ensures.err
