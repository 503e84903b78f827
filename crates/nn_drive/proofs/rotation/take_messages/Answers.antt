use Rattle.std.proofs.Common.{◌∙◌, ◌≡◌, Err, arith}
use Rattle.nn_drive.proofs.Rounds.{keeps_same, lane_keeps, none_stepped, one_tried, tried_steps}
use Rattle.nn_drive.proofs.Steps.{went_nowhere, went_on, went_until, still_place}
use Rattle.nn_drive.proofs.rotation.take_messages.Goals as goal

pub loop-taken-init : goal.loop-taken-init
loop-taken-init g c = (went_nowhere g.T.SegmentSource.gives g.T.SegmentSource.failures c.args.source.now c.args.standby.now, none_stepped c.args.standby.now, λ some. absurd (omega (arith, some)), keeps_same c.args.standby.now)

pub take_step-requires-clause-serving : goal.take_step-requires-clause-serving
take_step-requires-clause-serving g c = c.loop-taken.invariant.0.2.begun ∙ c.requires.serving

pub take_step-requires-clause-place : goal.take_step-requires-clause-place
take_step-requires-clause-place g c = still_place c.args.standby.now c.loop-taken.standby c.args.dn c.requires.place c.loop-taken.invariant.0.2.same_ends

pub returns-in_err-has_come-clause-went : goal.returns-in_err-has_come-clause-went
returns-in_err-has_come-clause-went g c =
    went_on g.T.SegmentSource.gives g.T.SegmentSource.failures c.args.source.now c.loop-taken.source c.take_step.new.source c.args.standby.now c.loop-taken.standby c.take_step.new.standby c.loop-taken.invariant.0 c.take_step.ensures.went

pub returns-in_err-has_come-clause-until : goal.returns-in_err-has_come-clause-until
returns-in_err-has_come-clause-until g c =
    let fault = c.in_err-has_come.field-0.0 in
    let is : c.from_residual.result ≡ Err fault = grind arith in
    rw is (went_until g.T.SegmentSource.gives g.T.SegmentSource.failures c.args.source.now c.loop-taken.source c.take_step.new.source c.args.standby.now c.loop-taken.standby fault c.requires.serving c.loop-taken.invariant.0 c.in_err-has_come.ensures.until)

pub returns-then-not-has_come-clause-went : goal.returns-then-not-has_come-clause-went
returns-then-not-has_come-clause-went g c =
    went_on g.T.SegmentSource.gives g.T.SegmentSource.failures c.args.source.now c.loop-taken.source c.take_step.new.source c.args.standby.now c.loop-taken.standby c.take_step.new.standby c.loop-taken.invariant.0 c.take_step.ensures.went

pub returns-then-not-has_come-clause-tried : goal.returns-then-not-has_come-clause-tried
returns-then-not-has_come-clause-tried g c =
    one_tried c.args.standby.now c.loop-taken.standby c.take_step.new.standby c.args.dn c.loop-taken.invariant.1 c.in_ok-has_come.ensures.made

pub returns-then-not-has_come-clause-kept : goal.returns-then-not-has_come-clause-kept
returns-then-not-has_come-clause-kept g c = lane_keeps c.args.standby.now c.loop-taken.standby c.take_step.new.standby c.args.dn c.loop-taken.invariant.3 c.in_ok-has_come.ensures.made

pub returns-clause-kept : goal.returns-clause-kept
returns-clause-kept g c = c.loop-taken.invariant.3

pub returns-clause-tried : goal.returns-clause-tried
returns-clause-tried g c = c.loop-taken.invariant.2 (omega (arith, c.requires.some, c.loop-taken-test.false))

pub loop-taken-preserved : goal.loop-taken-preserved
loop-taken-preserved g c =
    let t = one_tried c.args.standby.now c.loop-taken.standby c.take_step.new.standby c.args.dn c.loop-taken.invariant.1 c.in_ok-has_come.ensures.made in (
      went_on g.T.SegmentSource.gives g.T.SegmentSource.failures c.args.source.now c.loop-taken.source c.take_step.new.source c.args.standby.now c.loop-taken.standby c.take_step.new.standby c.loop-taken.invariant.0 c.take_step.ensures.went,
      tried_steps c.args.standby.now c.take_step.new.standby c.args.dn t,
      λ _. t,
      lane_keeps c.args.standby.now c.loop-taken.standby c.take_step.new.standby c.args.dn c.loop-taken.invariant.3 c.in_ok-has_come.ensures.made,
    )
