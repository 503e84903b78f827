use Rattle.std.proofs.Common.{length}
use Rattle.std.specs.List.{AllZip}
use Rattle.nn_drive.specs.Driven.{AreOneLane, EndsAgree}
use Rattle.nn_drive.proofs.driving.meet_all.Given as goal

abbrev pub invariant-loop-end : goal.invariant-loop-end
invariant-loop-end l = AllZip AreOneLane l.ends.items l.reporters.items × (AllZip EndsAgree l.ends.items l.reporters.items → AllZip EndsAgree l.initial.ends.items l.initial.reporters.items)

abbrev pub decreases-loop-end : goal.decreases-loop-end
decreases-loop-end l = length l.ends.items
