use Rattle.nn_live.proofs.laws.nothing_else_is_sent.Goals as goal
use Rattle.nn_live.proofs.Sending.{nothing_else_is_sent as law}

pub returns : goal.returns
returns c = law
