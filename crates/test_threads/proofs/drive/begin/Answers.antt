use Rattle.nn_drive.proofs.Drives.{still_lanes}
use Rattle.test_threads.proofs.drive.begin.Goals as goal

pub returns : goal.returns
returns c = still_lanes c.args.workers.now.items c.args.standby.now.ends c.close_intake.new.self.ends c.requires c.close_intake.ensures.ends
