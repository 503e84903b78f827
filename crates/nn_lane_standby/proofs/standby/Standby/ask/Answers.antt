use Rattle.std.proofs.Common.{◌∙◌}
use Rattle.nn_lane_standby.specs.contracts.standby.Standby.{the_view}
use Rattle.nn_lane_standby.proofs.Begun.{keeps_asked}
use Rattle.nn_lane_standby.proofs.standby.Standby.ask.Goals as goal

pub invariant_of-self : goal.invariant_of-self
invariant_of-self g c =
    let q = c.take_up.ensures.takes in
    keeps_asked (the_view c.self.inside) c.get-last.result c.take_up.new.self q.0 c.take_up.result c.self.invariant (c.get-last.ensures.value ∙ c.last_txid.ensures.last) q.2
