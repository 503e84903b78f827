use Rattle.std.proofs.Common.{arith, ◌∙◌, ◌≡◌, Err}
use Rattle.nn_feed.specs.Ends.{GivesWhatIsFed}
use Rattle.nn_drive.specs.Feeding.{failures_of}
use Rattle.nn_drive.proofs.Rounds.{keeps_same, keeps_then, none_visited, one_visited}
use Rattle.nn_drive.proofs.Steps.{went_nowhere, went_on, went_until, has_lane}
use Rattle.nn_drive.proofs.rotation.Rotation.take_lanes.Goals as goal

pub loop-i-init : goal.loop-i-init
loop-i-init g c = (went_nowhere GivesWhatIsFed failures_of c.args.end.now c.args.standby.now, none_visited c.args.standby.now, λ _. keeps_same c.args.standby.now)

pub take_messages-requires-clause-serving : goal.take_messages-requires-clause-serving
take_messages-requires-clause-serving g c = c.loop-i.invariant.0.2.begun ∙ c.requires

pub take_messages-requires-clause-place : goal.take_messages-requires-clause-place
take_messages-requires-clause-place g c = has_lane c.args.standby.now c.loop-i.standby c.lanes-lanes.result c.loop-i.i c.lanes-lanes.ensures.lanes c.loop-i-test.true c.loop-i.invariant.0.2.same_ends

pub take_log-requires : goal.take_log-requires
take_log-requires g c = c.take_messages.ensures.went.2.begun ∙ c.loop-i.invariant.0.2.begun ∙ c.requires

pub returns-in_err-taken-clause-went : goal.returns-in_err-taken-clause-went
returns-in_err-taken-clause-went g c = went_on GivesWhatIsFed failures_of c.args.end.now c.loop-i.end c.take_messages.new.source c.args.standby.now c.loop-i.standby c.take_messages.new.standby c.loop-i.invariant.0 c.take_messages.ensures.went

pub returns-in_err-taken-clause-until : goal.returns-in_err-taken-clause-until
returns-in_err-taken-clause-until g c =
    let fault = c.in_err-taken.field-0.0 in
    let is : c.from_residual.result ≡ Err fault = grind arith in
    rw is (went_until GivesWhatIsFed failures_of c.args.end.now c.loop-i.end c.take_messages.new.source c.args.standby.now c.loop-i.standby fault c.requires c.loop-i.invariant.0 c.in_err-taken.ensures.until)

pub returns-in_err-take_log-clause-went : goal.returns-in_err-take_log-clause-went
returns-in_err-take_log-clause-went g c =
    went_on GivesWhatIsFed failures_of c.args.end.now c.take_messages.new.source c.take_log.new.end c.args.standby.now c.take_messages.new.standby c.take_log.new.standby
    (went_on GivesWhatIsFed failures_of c.args.end.now c.loop-i.end c.take_messages.new.source c.args.standby.now c.loop-i.standby c.take_messages.new.standby c.loop-i.invariant.0 c.take_messages.ensures.went)
    c.take_log.ensures.went

pub returns-in_err-take_log-clause-until : goal.returns-in_err-take_log-clause-until
returns-in_err-take_log-clause-until g c =
    let fault = c.in_err-take_log.field-0.0 in
    let is : c.from_residual-in_err-take_log.result ≡ Err fault = grind arith in
    rw is (went_until GivesWhatIsFed failures_of c.args.end.now c.take_messages.new.source c.take_log.new.end c.args.standby.now c.take_messages.new.standby fault c.requires
    (went_on GivesWhatIsFed failures_of c.args.end.now c.loop-i.end c.take_messages.new.source c.args.standby.now c.loop-i.standby c.take_messages.new.standby c.loop-i.invariant.0 c.take_messages.ensures.went)
    c.in_err-take_log.ensures.until)

pub returns-clause-visited : goal.returns-clause-visited
returns-clause-visited g c =
    let v = c.loop-i.invariant.1 in
    (v.0, v.1, λ i few. v.2 i (omega (arith, few, c.loop-i-test.false, c.lanes-lanes.ensures.lanes)))

pub returns-clause-held : goal.returns-clause-held
returns-clause-held g c = c.loop-i.invariant.2

pub loop-i-preserved : goal.loop-i-preserved
loop-i-preserved g c = (
  went_on GivesWhatIsFed failures_of c.args.end.now c.take_messages.new.source c.take_log.new.end c.args.standby.now c.take_messages.new.standby c.take_log.new.standby
      (went_on GivesWhatIsFed failures_of c.args.end.now c.loop-i.end c.take_messages.new.source c.args.standby.now c.loop-i.standby c.take_messages.new.standby c.loop-i.invariant.0 c.take_messages.ensures.went)
      c.take_log.ensures.went,
  one_visited c.args.standby.now c.loop-i.standby c.take_messages.new.standby c.take_log.new.standby c.loop-i.i c.loop-i.invariant.1 c.in_ok-taken.ensures.tried c.in_ok-take_log.ensures.stepped,
  λ held. keeps_then c.args.standby.now c.take_messages.new.standby c.take_log.new.standby
      (keeps_then c.args.standby.now c.loop-i.standby c.take_messages.new.standby (c.loop-i.invariant.2 held) c.in_ok-taken.ensures.kept) (c.in_ok-take_log.ensures.held held),
)
