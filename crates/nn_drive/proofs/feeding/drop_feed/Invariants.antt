use Rattle.nn_feed.specs.Ends.{got_by, IsSameEnd}
use Rattle.nn_drive.specs.Feeding.{GotMore}
use Rattle.nn_drive.proofs.feeding.drop_feed.Given as goal

abbrev pub invariant-loop : goal.invariant-loop
invariant-loop g l = IsSameEnd l.initial.end l.end × GotMore (got_by l.initial.end) (got_by l.end)
