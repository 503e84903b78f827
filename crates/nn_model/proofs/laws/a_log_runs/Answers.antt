use Rattle.nn_model.proofs.laws.a_log_runs.Goals as goal
use Rattle.nn_model.proofs.Logs.{log_runs as law}

pub returns : goal.returns
returns c = law
