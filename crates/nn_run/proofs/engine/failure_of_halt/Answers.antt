use Rattle.std.proofs.Common.{Err, false, refl, subst}
use Rattle.std.proofs.lemmas.Result.{IfOk-weaker}
use Rattle.nn_run.specs.Ends.{IsRunOf}
use Rattle.nn_run.specs.Output.{image_fault}
use Rattle.nn_run.specs.Run.{failed}
use Rattle.nn_run.specs.declared.failure.RunFailure.TheVariants as failure
use Rattle.nn_run.specs.Start.{scenario_in}
use Rattle.nn_run.proofs.RunLemmas.{printed_of_line, printed_of_segment, printed_of_stop}
use Rattle.nn_run.proofs.FailureLemmas.{failed_stop}
use Rattle.nn_run.proofs.StartLemmas.{begun_so, not_begun, printed_from}
use Rattle.nn_run.proofs.engine.failure_of_halt.Goals as goal

pub returns-in-Image : goal.returns-in-Image
returns-in-Image c = λ options input is.
    let h = subst (λ halt. IsRunOf options input (Err halt)) c.in-Image.is is in
    not_begun false options input (image_fault c.in-Image.fault) c.in-Image.fault h refl

pub returns-in-Line : goal.returns-in-Line
returns-in-Line c = λ options input is.
    let h = subst (λ halt. IsRunOf options input (Err halt)) c.in-Line.is is in
    printed_from failed false options input c.of_bad_line.result h.0 h.1
    (IfOk-weaker c.of_bad_line.result _ _ (λ failure told. printed_of_line options h.0 (scenario_in options.from_image input) h.2 h.3 (failed failure) c.in-Line.bad h.4 told) c.of_bad_line.ensures)

pub returns-in-Segment : goal.returns-in-Segment
returns-in-Segment c = λ options input is.
    let h = subst (λ halt. IsRunOf options input (Err halt)) c.in-Segment.is is in
    printed_from failed false options input c.of_bad_segment.result h.0 h.1
    (IfOk-weaker c.of_bad_segment.result _ _ (λ failure told. printed_of_segment options h.0 (scenario_in options.from_image input) h.2 h.3 (failed failure) c.in-Segment.bad h.4 told.1) c.of_bad_segment.ensures)

pub returns-in-Log : goal.returns-in-Log
returns-in-Log c = λ options input is.
    let h = subst (λ halt. IsRunOf options input (Err halt)) c.in-Log.is is in
    begun_so false options input (failed (failure.Log c.in-Log.fault)) h.0 h.1
    (printed_of_stop options h.0 (scenario_in options.from_image input) h.2 h.3 (failed (failure.Log c.in-Log.fault)) c.in-Log.fault h.4 (failed_stop c.in-Log.fault))
