use Rattle.nn_live.proofs.laws.a_service_follows_what_came.Goals as goal
use Rattle.nn_live.proofs.Came.{follows_what_came}

pub returns : goal.returns
returns c = follows_what_came
