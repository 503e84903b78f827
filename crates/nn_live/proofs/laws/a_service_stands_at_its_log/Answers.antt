use Rattle.nn_live.proofs.laws.a_service_stands_at_its_log.Goals as goal
use Rattle.nn_live.proofs.Standing.{stands_at_its_log}

pub returns : goal.returns
returns c = stands_at_its_log
