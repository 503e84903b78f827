use Rattle.nn_live.proofs.laws.a_service_answers_as_a_run.Goals as goal
use Rattle.nn_live.proofs.SameRun.{serves_as_a_run}

pub returns : goal.returns
returns c = serves_as_a_run
