use Rattle.std.proofs.Common.{ap, length, arith}
use Rattle.nn_lane_standby.specs.Tailing.{Standby}
use Rattle.nn_lane_standby.proofs.Drained.{lanes_same, lanes_then, still_closed, same_length, drained_more}
use Rattle.nn_lane_standby.proofs.standby.Standby.drain_all.Goals as goal

pub loop-i-init : goal.loop-i-init
loop-i-init c = (lanes_same c.args.self.now, λ k l. absurd (omega (arith, l)))

pub drain_lane-requires-clause-place : goal.drain_lane-requires-clause-place
drain_lane-requires-clause-place c =
    let q = ap (λ (z : Standby). length z.ends) c.self.view_is in
    omega (arith, q, c.loop-i-test.true, c.len-lanes.ensures, c.self.inside.ends.ok.0, same_length c.args.self.now.ends c.loop-i.self.ends c.loop-i.invariant.0.same_ends)

pub drain_lane-requires-clause-closed : goal.drain_lane-requires-clause-closed
drain_lane-requires-clause-closed c = (still_closed c.args.self.now.ends c.loop-i.self.ends c.loop-i.invariant.0.same_ends c.requires.closed).0

pub returns-in_err-drain_lane-clause-frame : goal.returns-in_err-drain_lane-clause-frame
returns-in_err-drain_lane-clause-frame c = lanes_then c.args.self.now c.loop-i.self c.drain_lane.new.self c.loop-i.i c.loop-i.invariant.0 c.drain_lane.ensures.frame

pub loop-i-preserved : goal.loop-i-preserved
loop-i-preserved c = (
  lanes_then c.args.self.now c.loop-i.self c.drain_lane.new.self c.loop-i.i c.loop-i.invariant.0 c.drain_lane.ensures.frame,
  drained_more c.loop-i.self c.drain_lane.new.self c.loop-i.i c.drain_lane.ensures.frame c.in_ok-drain_lane.ensures.ok c.loop-i.invariant.1,
)

pub returns-clause-ok : goal.returns-clause-ok
returns-clause-ok c = λ k l.
    let q = ap (λ (z : Standby). length z.ends) c.self.view_is in
    c.loop-i.invariant.1 k (omega (arith, l, q, c.loop-i-test.false, c.len-lanes.ensures, c.self.inside.ends.ok.0, same_length c.args.self.now.ends c.loop-i.self.ends c.loop-i.invariant.0.same_ends))
