use Rattle.std.proofs.Common.{[], subst}
use Rattle.nn_lane_standby.specs.Tailing.{StandsAt}
use Rattle.nn_lane_standby.proofs.standby.Standby.new.Goals as goal

pub returns-clause-ok : goal.returns-clause-ok
returns-clause-ok c =
    let new = c.in_ok-standby.ensures.new in
    (new.ends, new.begun, new.stop, new.active, subst (λ n. StandsAt n 0 [] c.in_ok-standby.standby) c.new-namespace.ensures new.stands)
