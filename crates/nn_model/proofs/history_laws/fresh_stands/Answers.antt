use Rattle.nn_model.proofs.history_laws.fresh_stands.Goals as goal
use Rattle.nn_model.proofs.Standings.{fresh_stands}

pub returns : goal.returns
returns c = fresh_stands
