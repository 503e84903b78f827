use Rattle.nn_lane.proofs.Events.{lane_reached}
use Rattle.nn_lane.proofs.laws.a_lane_is_an_intake.Goals as goal

pub returns : goal.returns
returns c = lane_reached
