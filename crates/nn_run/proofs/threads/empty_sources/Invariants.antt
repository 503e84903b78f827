use Rattle.std.specs.Prelude.{◌≡◌, List, [], replicate}
use Rattle.nn_types.specs.declared.report.Report.{Report}
use Rattle.nn_run.proofs.threads.empty_sources.Given as goal

abbrev pub invariant-loop-worker : goal.invariant-loop-worker
invariant-loop-worker g l = l.sources.items ≡ replicate {A = List Report} l.worker []
