use Rattle.std.proofs.Common.{◌≡◌, length}
use Rattle.nn_replicas.specs.Entry.{replicas_in}
use Rattle.nn_replicas.proofs.replicas_of.ReplicasOfIterator.next.Given as goal

-- the cells passed have no replica
abbrev pub invariant-loop-first : goal.invariant-loop-first
invariant-loop-first l = replicas_in l.self-inside.cells.now ≡ replicas_in l.initial.self-inside.cells.now

abbrev pub decreases-loop-first : goal.decreases-loop-first
decreases-loop-first l = length l.self-inside.cells.now
