use Rattle.nn_lane.proofs.Events.{each_step}
use Rattle.nn_lane.proofs.laws.each_step_is_an_event.Goals as goal

pub returns : goal.returns
returns c = each_step
