use Rattle.std.specs.Prelude.{◌<◌}
use Rattle.nn_drive.specs.Rounds.{HasStepped, HasTried}
use Rattle.nn_drive.specs.Driven.{Went}
use Rattle.nn_drive.specs.Serving.{KeepsNamespace}
use Rattle.nn_drive.proofs.rotation.take_messages.Given as goal

abbrev pub invariant-loop-taken : goal.invariant-loop-taken
invariant-loop-taken g l =
    Went g.T.SegmentSource.gives g.T.SegmentSource.failures l.initial.source l.initial.standby l.source l.standby
    × HasStepped l.initial.standby l.standby × (0 < l.taken → HasTried l.initial.standby l.dn l.standby) × KeepsNamespace l.initial.standby l.standby
