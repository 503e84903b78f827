use Rattle.nn_drive.proofs.Joined.{takes_all}
use Rattle.nn_drive.proofs.laws.a_joined_worker_was_all_taken.Goals as goal

pub returns : goal.returns
returns g c = takes_all g.O.Operator.asks g.T.SegmentSource.gives g.T.SegmentSource.failures g.S.ReportSource.gives
