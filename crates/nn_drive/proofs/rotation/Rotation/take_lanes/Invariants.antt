use Rattle.std.specs.Prelude.{◌≡◌, true}
use Rattle.nn_feed.specs.Ends.{GivesWhatIsFed}
use Rattle.nn_drive.specs.Driven.{Went}
use Rattle.nn_drive.specs.Feeding.{failures_of}
use Rattle.nn_drive.specs.Rounds.{HasVisited}
use Rattle.nn_drive.specs.Serving.{KeepsNamespace, holds}
use Rattle.nn_drive.proofs.rotation.Rotation.take_lanes.Given as goal

abbrev pub invariant-loop-i : goal.invariant-loop-i
invariant-loop-i g l = Went GivesWhatIsFed failures_of l.initial.end l.initial.standby l.end l.standby × HasVisited l.initial.standby l.i l.standby × (holds l.request ≡ true → KeepsNamespace l.initial.standby l.standby)
