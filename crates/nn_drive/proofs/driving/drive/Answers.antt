use Rattle.std.proofs.Common.{sym}
use Rattle.nn_drive.proofs.Steps.{refused_before, nothing_yet}
use Rattle.nn_drive.proofs.driving.drive.Goals as goal

pub returns-in-Some-clause-err : goal.returns-in-Some-clause-err
returns-in-Some-clause-err g c = (c.args.source, refused_before g.T.SegmentSource.gives g.T.SegmentSource.failures c.args.source c.args.standby c.in-Some.fault (sym c.in-Some.ensures))

pub returns-in_default-new-clause-err : goal.returns-in_default-new-clause-err
returns-in_default-new-clause-err g c = (c.args.source, nothing_yet g.T.SegmentSource.gives g.T.SegmentSource.failures c.args.source c.args.standby)
