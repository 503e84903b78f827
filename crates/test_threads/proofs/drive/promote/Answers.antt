use Rattle.nn_drive.proofs.Drives.{still_lanes, same_lanes}
use Rattle.test_threads.proofs.drive.promote.Goals as goal

pub returns : goal.returns
returns g c =
    let closed = still_lanes c.args.workers.now.items c.args.standby.now.ends c.close_intake.new.self.ends c.requires c.close_intake.ensures.ends in
    same_lanes c.args.workers.now.items c.close_intake.new.self.ends c.promote.new.self.ends closed c.promote.ensures.promotes.3
