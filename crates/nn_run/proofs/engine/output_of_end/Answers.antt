use Rattle.std.proofs.Common.{false, subst}
use Rattle.std.proofs.lemmas.Result.{IfOk-weaker}
use Rattle.nn_run.specs.Ends.{IsRunOf}
use Rattle.nn_run.specs.Shown.{shown}
use Rattle.nn_run.specs.Start.{scenario_in}
use Rattle.nn_run.proofs.RunLemmas.{printed_of_standby}
use Rattle.nn_run.proofs.StartLemmas.{printed_from}
use Rattle.nn_run.proofs.engine.output_of_end.Goals as goal

pub returns-in-Ok : goal.returns-in-Ok
returns-in-Ok c = λ options input is.
    let h = subst (IsRunOf options input) c.in-Ok.is is in
    printed_from (shown options) false options input c.output_of_standby.result h.0 h.1
    (IfOk-weaker c.output_of_standby.result _ _ (λ o told. printed_of_standby options h.0 (scenario_in options.from_image input) h.2 h.3 (shown options o) c.in-Ok.shadow h.4 (told options)) c.output_of_standby.ensures)
