use Rattle.std.proofs.Common.{arith}
use Rattle.nn_lane_standby.proofs.LaneSteps.{frame_then}
use Rattle.nn_lane_standby.proofs.Drained.{lane_same, fewer_left, still_closed, same_length}
use Rattle.nn_lane_standby.proofs.standby.Standby.drain_lane.Goals as goal

pub loop-init : goal.loop-init
loop-init c = lane_same c.args.self.now c.args.i c.requires.place

pub returns-in_err-step_at-clause-frame : goal.returns-in_err-step_at-clause-frame
returns-in_err-step_at-clause-frame c = frame_then c.args.self.now c.loop.self c.step_at.new.self c.args.i c.loop.invariant c.step_at.ensures.frame

pub returns-in-Empty-clause-frame : goal.returns-in-Empty-clause-frame
returns-in-Empty-clause-frame c = frame_then c.args.self.now c.loop.self c.step_at.new.self c.args.i c.loop.invariant c.step_at.ensures.frame

pub loop-preserved : goal.loop-preserved
loop-preserved c = frame_then c.args.self.now c.loop.self c.step_at.new.self c.args.i c.loop.invariant c.step_at.ensures.frame

pub loop-smaller : goal.loop-smaller
loop-smaller c =
    let s = c.loop.invariant.same_ends in
    fewer_left c.loop.self c.step_at.new.self c.args.i c.in_ok-step_at.field-0 (omega (arith, same_length c.args.self.now.ends c.loop.self.ends s, c.requires.place))
    (still_closed c.args.self.now.ends c.loop.self.ends s c.requires.closed).0 c.in_default.not-Empty c.step_at.ensures.frame c.in_ok-step_at.ensures.moves
