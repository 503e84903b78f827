use Rattle.std.proofs.Common.{◌≡◌, ◌++◌, length}
use Rattle.nn_postponed.specs.Flat.{flat}
use Rattle.nn_postponed.proofs.held.HeldIterator.next.Given as goal

-- the queues passed are empty
abbrev pub invariant-queues : goal.invariant-queues
invariant-queues l = l.self-inside.queue ++ flat l.self-inside.queues ≡ l.initial.self-inside.queue ++ flat l.initial.self-inside.queues

abbrev pub decreases-queues : goal.decreases-queues
decreases-queues l = length l.self-inside.queues
