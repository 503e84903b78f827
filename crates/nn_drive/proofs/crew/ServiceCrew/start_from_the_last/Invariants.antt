use Rattle.std.specs.Prelude.{◌≡◌, ◌+◌, ◌≤◌, ◌++◌, List, reverse, vec_items, vec_len, vec_capacity}
use Rattle.std.specs.List.{AllZip}
use Rattle.nn_lane.specs.Ends.{Reporter}
use Rattle.nn_drive.specs.Driven.{IsPromised}
use Rattle.nn_drive.proofs.crew.ServiceCrew.start_from_the_last.Given as goal

abbrev pub invariant-loop-own : goal.invariant-loop-own
invariant-loop-own g l =
    ((begun : List (g.row.S.Denot × Reporter)) × (reverse (vec_items l.initial.workers) ≡ begun ++ reverse (vec_items l.workers)) × AllZip IsPromised begun (vec_items l.handles))
    × (vec_len l.handles + vec_len l.workers ≤ vec_capacity l.handles)

abbrev pub decreases-loop-own : goal.decreases-loop-own
decreases-loop-own g l = vec_len l.workers
