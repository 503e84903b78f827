use Rattle.nn_drive.proofs.Rounds.{makes}
use Rattle.nn_drive.proofs.Steps.{step_may_come, one_step, one_fault}
use Rattle.nn_drive.proofs.rotation.take_step.Goals as goal

pub fault_of-requires : goal.fault_of-requires
fault_of-requires g c =
    let h = c.in-Err.ensures.steps in step_may_come c.args.standby.now c.step.new.self c.args.choice h.0 c.in-Err.fault c.requires.serving c.requires.place h.5.0

pub returns-in-Ok-clause-went : goal.returns-in-Ok-clause-went
returns-in-Ok-clause-went g c =
    one_step g.T.SegmentSource.gives g.T.SegmentSource.failures c.args.source.now c.step.new.source c.args.standby.now c.step.new.self c.args.choice c.step.result c.step.ensures.steps c.step.ensures.counted

pub returns-in-Err-clause-went : goal.returns-in-Err-clause-went
returns-in-Err-clause-went g c =
    one_step g.T.SegmentSource.gives g.T.SegmentSource.failures c.args.source.now c.step.new.source c.args.standby.now c.step.new.self c.args.choice c.step.result c.step.ensures.steps c.step.ensures.counted

pub returns-in-Err-clause-until : goal.returns-in-Err-clause-until
returns-in-Err-clause-until g c =
    let h = c.in-Err.ensures in
    one_fault g.T.SegmentSource.gives g.T.SegmentSource.failures c.args.source.now c.step.new.source c.args.standby.now c.step.new.self c.args.choice c.in-Err.fault c.fault_of.result h.steps h.failed h.counted c.fault_of.ensures

pub returns-in-Ok-clause-made : goal.returns-in-Ok-clause-made
returns-in-Ok-clause-made g c = makes g.T.SegmentSource.gives c.args.source.now c.step.new.source c.args.standby.now c.step.new.self c.args.choice c.in-Ok.stepped c.in-Ok.ensures.steps
