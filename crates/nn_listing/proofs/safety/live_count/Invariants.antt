use Rattle.std.proofs.Common.{◌≡◌, ◌+◌, length}
use Rattle.nn_replicas.specs.Calls.{replicas_at}
use Rattle.nn_listing.proofs.Lives.{lives}
use Rattle.nn_listing.proofs.safety.live_count.Given as goal

-- the replicas that are left are to be counted
abbrev pub invariant-replicas : goal.invariant-replicas
invariant-replicas l = l.live + lives l.block l.replicas ≡ lives l.block (replicas_at l.table l.block.id)

abbrev pub decreases-replicas : goal.decreases-replicas
decreases-replicas l = length l.replicas
