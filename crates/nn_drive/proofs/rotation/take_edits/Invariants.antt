use Rattle.nn_feed.specs.Ends.{GivesWhatIsFed}
use Rattle.nn_drive.specs.Driven.{Went}
use Rattle.nn_drive.specs.Feeding.{failures_of}
use Rattle.nn_drive.specs.Rounds.{HasStepped}
use Rattle.nn_drive.proofs.rotation.take_edits.Given as goal

abbrev pub invariant-loop : goal.invariant-loop
invariant-loop g l = Went GivesWhatIsFed failures_of l.initial.end l.initial.standby l.end l.standby × HasStepped l.initial.standby l.standby
