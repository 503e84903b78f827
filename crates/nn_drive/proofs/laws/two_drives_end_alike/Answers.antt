use Rattle.nn_drive.proofs.Alike.{drives_end_alike}
use Rattle.nn_drive.proofs.laws.two_drives_end_alike.Goals as goal

pub returns : goal.returns
returns g c = drives_end_alike g.T.SegmentSource.gives g.T.SegmentSource.failures g.S.ReportSource.gives
