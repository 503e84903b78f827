use Rattle.std.proofs.Common.{◌∙◌, ◌≡◌, Err, arith}
use Rattle.nn_feed.specs.Ends.{GivesWhatIsFed}
use Rattle.nn_drive.specs.Feeding.{failures_of}
use Rattle.nn_drive.specs.Serving.{forgotten}
use Rattle.nn_lane_standby.specs.Tailing.{standby_with_past}
use Rattle.nn_drive.proofs.Steps.{went_until}
use Rattle.nn_drive.proofs.Kept.{until_after}
use Rattle.nn_drive.proofs.InTurn.{rotates_none, obeys, requests_now, goes_round, next_round}
use Rattle.nn_drive.proofs.rotation.Rotation.rotate.Goals as goal

pub loop-init : goal.loop-init
loop-init g c = rotates_none g.O.Operator.asks GivesWhatIsFed failures_of c.args.self.now.started c.args.end.now c.args.standby.now c.args.operator.now

pub returns-in-Promote-clause-requested : goal.returns-in-Promote-clause-requested
returns-in-Promote-clause-requested g c =
    requests_now g.O.Operator.asks GivesWhatIsFed failures_of c.args.self.now.started c.args.end.now c.loop.end c.args.standby.now c.loop.standby c.args.operator.now c.loop.operator c.ask-request.new.self c.still_running-running.result c.still_running-running.ensures
    c.ask-request.result c.in-Promote.is c.ask-request.ensures c.loop.invariant

pub take_round-requires : goal.take_round-requires
take_round-requires g c =
    let k = obeys g.O.Operator.asks GivesWhatIsFed failures_of c.args.self.now.started c.args.end.now c.loop.end c.args.standby.now c.loop.standby c.args.operator.now c.loop.operator c.ask-request.new.self c.forget_requested.new.standby c.still_running-running.result c.still_running-running.ensures
    c.ask-request.result c.in_default.not-Promote c.ask-request.ensures c.forget_requested.ensures c.loop.invariant in
    k.went.2.begun ∙ c.requires

pub returns-in_err-is_left-clause-gone : goal.returns-in_err-is_left-clause-gone
returns-in_err-is_left-clause-gone g c =
    let k = obeys g.O.Operator.asks GivesWhatIsFed failures_of c.args.self.now.started c.args.end.now c.loop.end c.args.standby.now c.loop.standby c.args.operator.now c.loop.operator c.ask-request.new.self c.forget_requested.new.standby c.still_running-running.result c.still_running-running.ensures
    c.ask-request.result c.in_default.not-Promote c.ask-request.ensures c.forget_requested.ensures c.loop.invariant in
    let is : c.from_residual.result ≡ Err c.in_err-is_left.field-0.0 = grind arith in
    rw is (goes_round g.O.Operator.asks GivesWhatIsFed failures_of c.args.self.now.started c.args.end.now c.loop.end c.take_round.new.end c.args.standby.now c.forget_requested.new.standby c.take_round.new.standby c.args.operator.now c.ask-request.new.self c.ask-request.result k c.take_round.ensures.went)

pub returns-in_err-is_left-clause-until : goal.returns-in_err-is_left-clause-until
returns-in_err-is_left-clause-until g c =
    let k = obeys g.O.Operator.asks GivesWhatIsFed failures_of c.args.self.now.started c.args.end.now c.loop.end c.args.standby.now c.loop.standby c.args.operator.now c.loop.operator c.ask-request.new.self c.forget_requested.new.standby c.still_running-running.result c.still_running-running.ensures
    c.ask-request.result c.in_default.not-Promote c.ask-request.ensures c.forget_requested.ensures c.loop.invariant in
    let fault = c.in_err-is_left.field-0.0 in
    let is : c.from_residual.result ≡ Err fault = grind arith in
    rw is (went_until GivesWhatIsFed failures_of c.args.end.now c.loop.end c.take_round.new.end c.args.standby.now (standby_with_past (forgotten k.shown) c.forget_requested.new.standby) fault c.requires k.went
    (until_after GivesWhatIsFed failures_of (forgotten k.shown) c.loop.end c.take_round.new.end c.forget_requested.new.standby fault c.in_err-is_left.ensures.until))

pub loop-preserved : goal.loop-preserved
loop-preserved g c =
    let k = obeys g.O.Operator.asks GivesWhatIsFed failures_of c.args.self.now.started c.args.end.now c.loop.end c.args.standby.now c.loop.standby c.args.operator.now c.loop.operator c.ask-request.new.self c.forget_requested.new.standby c.still_running-running.result c.still_running-running.ensures
    c.ask-request.result c.in_default.not-Promote c.ask-request.ensures c.forget_requested.ensures c.loop.invariant in
    next_round g.O.Operator.asks GivesWhatIsFed failures_of c.args.self.now.started c.args.end.now c.loop.end c.take_round.new.end c.args.standby.now c.forget_requested.new.standby c.take_round.new.standby c.args.operator.now c.ask-request.new.self c.ask-request.result k c.take_round.ensures.went c.in_ok-is_left.ensures.visited c.in_ok-is_left.ensures.held
