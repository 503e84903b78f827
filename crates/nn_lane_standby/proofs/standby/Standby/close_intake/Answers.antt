use Rattle.std.proofs.Common.{refl, subst, List}
use Rattle.nn_lane.specs.Ends.{LaneEnd}
use Rattle.nn_lane_standby.specs.LaneSteps.{CloseEnds}
use Rattle.nn_lane_standby.specs.contracts.standby.Standby.{the_view}
use Rattle.nn_lane_standby.proofs.Closed.{keeps_closed, carries_closed, all_closed, written}
use Rattle.nn_lane_standby.proofs.standby.Standby.close_intake.Goals as goal

pub invariant_of-self : goal.invariant_of-self
invariant_of-self c =
    let h = subst (λ (z : List LaneEnd). CloseEnds z c.close_all.new.ends) c.as_mut_slice.ensures.value c.close_all.ensures in
    let w = written c.self.inside.ends.len c.self.inside.ends.items c.close_all.new.ends h c.self.inside.ends.ok.0 in
    rw w (keeps_closed (the_view c.self.inside) c.close_all.new.ends c.self.invariant h)

pub returns : goal.returns
returns c =
    let h = subst (λ (z : List LaneEnd). CloseEnds z c.close_all.new.ends) c.as_mut_slice.ensures.value c.close_all.ensures in
    let w = written c.self.inside.ends.len c.self.inside.ends.items c.close_all.new.ends h c.self.inside.ends.ok.0 in
    rw (← c.self.view_is, w) (record { ends = h; closed = all_closed c.self.inside.ends.items c.close_all.new.ends h; rest = refl; carries = carries_closed (the_view c.self.inside) c.close_all.new.ends h })
