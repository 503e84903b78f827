use Rattle.nn_lane_standby.proofs.Closed.{ClosedTo}
use Rattle.nn_lane_standby.proofs.standby.lanes.close_all.Given as goal

abbrev pub invariant-loop-end : goal.invariant-loop-end
invariant-loop-end l = ClosedTo l.end-index l.initial.end-items l.end-items
