use Rattle.std.proofs.Common.{◌<◌, ℕ}
use Rattle.nn_lane_standby.specs.LaneSteps.{LanesFrame, IsDrained}
use Rattle.nn_lane_standby.proofs.standby.Standby.drain_all.Given as goal

abbrev pub invariant-loop-i : goal.invariant-loop-i
invariant-loop-i l = LanesFrame l.initial.self l.self × ((k : ℕ) → k < l.i → IsDrained l.self k)
