use Rattle.std.proofs.Common.{true, ap, ◌∙◌}
use Rattle.nn_run.specs.Input.{begun, start_of}
use Rattle.nn_run.specs.Shown.{shown}
use Rattle.nn_run.proofs.StartLemmas.{printed_from}
use Rattle.nn_run.proofs.threads.parts_by_threads.Goals as goal

pub returns-in-Ok : goal.returns-in-Ok
returns-in-Ok g c = λ input is.
    printed_from (shown c.args.asked.now.options) true c.args.asked.now.options input c.output_by_threads.result (start_of c.in-Ok.begin) (c.start_from.ensures input is.loaded ∙ ap begun c.in-Ok.is)
    (c.output_by_threads.ensures _ is.read)
