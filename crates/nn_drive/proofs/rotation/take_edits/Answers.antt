use Rattle.std.proofs.Common.{◌∙◌, ◌≡◌, Err, arith}
use Rattle.nn_feed.specs.Ends.{GivesWhatIsFed}
use Rattle.nn_drive.specs.Feeding.{failures_of}
use Rattle.nn_lane_standby.specs.declared.standby.Choice.TheVariants.{Edit}
use Rattle.nn_drive.proofs.Rounds.{none_stepped, one_stepped}
use Rattle.nn_drive.proofs.Steps.{went_nowhere, went_on, went_until}
use Rattle.nn_drive.proofs.rotation.take_edits.Goals as goal

pub loop-init : goal.loop-init
loop-init g c = (went_nowhere GivesWhatIsFed failures_of c.args.end.now c.args.standby.now, none_stepped c.args.standby.now)

pub take_step-requires-clause-serving : goal.take_step-requires-clause-serving
take_step-requires-clause-serving g c = c.loop.invariant.0.2.begun ∙ c.requires

pub returns-in_err-has_come-clause-went : goal.returns-in_err-has_come-clause-went
returns-in_err-has_come-clause-went g c = went_on GivesWhatIsFed failures_of c.args.end.now c.loop.end c.take_step.new.source c.args.standby.now c.loop.standby c.take_step.new.standby c.loop.invariant.0 c.take_step.ensures.went

pub returns-in_err-has_come-clause-until : goal.returns-in_err-has_come-clause-until
returns-in_err-has_come-clause-until g c =
    let fault = c.in_err-has_come.field-0.0 in
    let is : c.from_residual.result ≡ Err fault = grind arith in
    rw is (went_until GivesWhatIsFed failures_of c.args.end.now c.loop.end c.take_step.new.source c.args.standby.now c.loop.standby fault c.requires c.loop.invariant.0 c.in_err-has_come.ensures.until)

pub returns-then-not-has_come-clause-went : goal.returns-then-not-has_come-clause-went
returns-then-not-has_come-clause-went g c = went_on GivesWhatIsFed failures_of c.args.end.now c.loop.end c.take_step.new.source c.args.standby.now c.loop.standby c.take_step.new.standby c.loop.invariant.0 c.take_step.ensures.went

pub returns-then-not-has_come-clause-stepped : goal.returns-then-not-has_come-clause-stepped
returns-then-not-has_come-clause-stepped g c = one_stepped c.args.standby.now c.loop.standby c.take_step.new.standby Edit c.loop.invariant.1 c.in_ok-has_come.ensures.made

pub loop-preserved : goal.loop-preserved
loop-preserved g c = (
  went_on GivesWhatIsFed failures_of c.args.end.now c.loop.end c.take_step.new.source c.args.standby.now c.loop.standby c.take_step.new.standby c.loop.invariant.0 c.take_step.ensures.went,
  one_stepped c.args.standby.now c.loop.standby c.take_step.new.standby Edit c.loop.invariant.1 c.in_ok-has_come.ensures.made,
)
