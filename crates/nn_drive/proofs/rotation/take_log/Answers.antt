use Rattle.nn_feed.specs.Ends.{GivesWhatIsFed}
use Rattle.nn_drive.specs.Feeding.{failures_of}
use Rattle.nn_drive.proofs.Steps.{went_nowhere}
use Rattle.nn_drive.proofs.rotation.take_log.Goals as goal

pub returns-then-is_holding-clause-went : goal.returns-then-is_holding-clause-went
returns-then-is_holding-clause-went g c = went_nowhere GivesWhatIsFed failures_of c.args.end.now c.args.standby.now
