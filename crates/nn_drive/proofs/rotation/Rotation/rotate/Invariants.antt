use Rattle.nn_feed.specs.Ends.{GivesWhatIsFed}
use Rattle.nn_drive.specs.Feeding.{failures_of}
use Rattle.nn_drive.specs.Served.{Rotates}
use Rattle.nn_drive.proofs.InTurn.{IsShownNext}
use Rattle.nn_drive.proofs.rotation.Rotation.rotate.Given as goal

abbrev pub invariant-loop : goal.invariant-loop
invariant-loop g l =
    Rotates GivesWhatIsFed failures_of l.initial.end l.initial.standby l.end l.standby (IsShownNext g.O.Operator.asks l.self.started l.initial.standby l.initial.operator l.standby l.operator)
