use Rattle.std.proofs.Common.{◌-◌}
use Rattle.nn_lane_standby.specs.LaneSteps.{LaneFrame, all_count, handed_count}
use Rattle.nn_lane_standby.proofs.standby.Standby.drain_lane.Given as goal

abbrev pub invariant-loop : goal.invariant-loop
invariant-loop l = LaneFrame l.initial.self l.i l.self

abbrev pub decreases-loop : goal.decreases-loop
decreases-loop l = all_count l.self l.i - handed_count l.self l.i
