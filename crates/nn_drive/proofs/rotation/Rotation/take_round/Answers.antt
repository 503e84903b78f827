use Rattle.std.proofs.Common.{◌∙◌, ◌≡◌, Err, length, arith}
use Rattle.std.proofs.lemmas.Result.{IfOk-weaker, IfErr-weaker}
use Rattle.nn_feed.specs.Ends.{GivesWhatIsFed}
use Rattle.nn_drive.specs.Feeding.{failures_of}
use Rattle.nn_drive.specs.Rounds.{IsRound}
use Rattle.nn_lane_standby.proofs.Drained.{same_length}
use Rattle.nn_drive.proofs.Rounds.{keeps_then, visited_then}
use Rattle.nn_drive.proofs.Steps.{went_on, went_until}
use Rattle.nn_drive.proofs.rotation.Rotation.take_round.Goals as goal

pub take_lanes-requires : goal.take_lanes-requires
take_lanes-requires g c = c.take_log.ensures.went.2.begun ∙ c.requires

pub returns-in_err-take_log-clause-until : goal.returns-in_err-take_log-clause-until
returns-in_err-take_log-clause-until g c =
    let fault = c.in_err-take_log.field-0.0 in
    let is : c.from_residual.result ≡ Err fault = grind arith in
    rw is c.in_err-take_log.ensures.until

pub returns-clause-went : goal.returns-clause-went
returns-clause-went g c = went_on GivesWhatIsFed failures_of c.args.end.now c.take_log.new.end c.take_lanes.new.end c.args.standby.now c.take_log.new.standby c.take_lanes.new.standby c.take_log.ensures.went c.take_lanes.ensures.went

pub returns-clause-visited : goal.returns-clause-visited
returns-clause-visited g c = IfOk-weaker c.take_lanes.result _ _ (λ _ round. visits round) c.take_lanes.ensures.visited
  where
    visits : IsRound c.take_log.new.standby c.take_lanes.new.standby → IsRound c.args.standby.now c.take_lanes.new.standby
    visits round =
        let ends = same_length c.args.standby.now.ends c.take_log.new.standby.ends c.take_log.ensures.went.2.same_ends in
        let v = visited_then c.args.standby.now c.take_log.new.standby c.take_lanes.new.standby (length c.take_log.new.standby.ends) c.in_ok-take_log.ensures.stepped round in
        (v.0, v.1, λ i few. v.2 i (omega (arith, few, ends)))

pub returns-clause-held : goal.returns-clause-held
returns-clause-held g c = IfOk-weaker c.take_lanes.result _ _ (λ _ kept held. keeps_then c.args.standby.now c.take_log.new.standby c.take_lanes.new.standby (c.in_ok-take_log.ensures.held held) (kept held)) c.take_lanes.ensures.held

pub returns-clause-until : goal.returns-clause-until
returns-clause-until g c =
    IfErr-weaker c.take_lanes.result _ _
    (λ fault until. went_until GivesWhatIsFed failures_of c.args.end.now c.take_log.new.end c.take_lanes.new.end c.args.standby.now c.take_log.new.standby fault c.requires c.take_log.ensures.went until)
    c.take_lanes.ensures.until
