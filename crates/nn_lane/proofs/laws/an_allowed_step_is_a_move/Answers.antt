use Rattle.nn_lane.proofs.Events.{moves}
use Rattle.nn_lane.proofs.laws.an_allowed_step_is_a_move.Goals as goal

pub returns : goal.returns
returns g c node n id i f st v cs = moves node n id i f (g.M.Play.then st) v cs
