use Rattle.nn_lane_standby.proofs.Logs.{Reading}
use Rattle.nn_lane_standby.proofs.standby.Standby.read_log.Given as goal

abbrev pub invariant-loop-self : goal.invariant-loop-self
invariant-loop-self g l = Reading g.S.SegmentSource.gives g.S.SegmentSource.failures l.initial.source l.source l.initial.self l.self

abbrev pub decreases-loop-self : goal.decreases-loop-self
decreases-loop-self g l = g.S.SegmentSource.left l.source
