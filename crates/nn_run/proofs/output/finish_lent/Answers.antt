use Rattle.std.proofs.Common.{refl, inr}
use Rattle.std.proofs.lemmas.Result.{IfOk-weaker, IfErr-weaker}
use Rattle.nn_input.specs.declared.fault.InputFault.TheVariants.{OutOfMemory}
use Rattle.nn_run.specs.Run.{unread}
use Rattle.nn_run.proofs.output.finish_lent.Goals as goal

pub returns-in-Err-clause-written : goal.returns-in-Err-clause-written
returns-in-Err-clause-written g c = IfOk-weaker c.no_memory.result _ _ (λ end e. record { output = unread OutOfMemory; right = inr refl; took = e.0; ends = e.1 }) c.no_memory.ensures.ok

pub returns-in-Err-clause-prefix : goal.returns-in-Err-clause-prefix
returns-in-Err-clause-prefix g c = IfErr-weaker c.no_memory.result _ _ (λ fault prefix. record { output = unread OutOfMemory; right = inr refl; prefix = prefix }) c.no_memory.ensures.prefix
