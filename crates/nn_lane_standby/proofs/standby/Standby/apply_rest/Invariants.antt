use Rattle.std.proofs.Common.{length, []}
use Rattle.nn_lane_standby.proofs.Logs.{Going}
use Rattle.nn_lane_standby.proofs.standby.Standby.apply_rest.Given as goal

abbrev pub invariant-loop-self : goal.invariant-loop-self
invariant-loop-self l = Going l.initial.self [] l.self

abbrev pub decreases-loop-self : goal.decreases-loop-self
decreases-loop-self l = length l.self.rest
