use Rattle.std.proofs.Common.{◌<◌, ◌≤◌, length, subst, arith}
use Rattle.nn_lane_standby.specs.LaneSteps.{ClosesEnd}
use Rattle.nn_lane_standby.proofs.Fetched.{any_default}
use Rattle.nn_lane_standby.proofs.Closed.{closed_none, closed_more, closed_to_all}
use Rattle.nn_lane_standby.proofs.standby.lanes.close_all.Goals as goal

pub loop-end-init : goal.loop-end-init
loop-end-init c = closed_none _

pub loop-end-preserved : goal.loop-end-preserved
loop-end-preserved c =
    let a = c.close-accepted.ensures in let i = c.loop-end.invariant in let e' = c.close-accepted.new.self in
    let l : c.loop-end.end-index < length c.loop-end.end-items = omega (arith, c.loop-end-test.true, i.many) in
    let few : length e'.got ≤ e'.seen = omega (arith, a.count.0, a.count.2) in
    closed_more c.loop-end.end-index c.args.ends.now c.loop-end.end-items e' i c.loop-end-test.true
    (λ d. subst (λ z. ClosesEnd z e') (any_default c.loop-end.end-items c.loop-end.end-index c.end-item.result d l) (a.lane.0, a.lane.1, a.closed, few, a.again, a.lane.2))

pub returns : goal.returns
returns c =
    let i = c.loop-end.invariant in
    closed_to_all c.args.ends.now c.loop-end.end-items i.many (λ k d l. i.done k d (omega (arith, l, c.loop-end-test.false)))
