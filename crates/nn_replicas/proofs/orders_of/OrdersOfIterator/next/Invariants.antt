use Rattle.std.proofs.Common.{◌≡◌, length}
use Rattle.nn_replicas.specs.Entry.{ordered_in}
use Rattle.nn_replicas.proofs.orders_of.OrdersOfIterator.next.Given as goal

-- the cells passed have no order
abbrev pub invariant-loop-first : goal.invariant-loop-first
invariant-loop-first l = ordered_in l.self-inside.cells.now ≡ ordered_in l.initial.self-inside.cells.now

abbrev pub decreases-loop-first : goal.decreases-loop-first
decreases-loop-first l = length l.self-inside.cells.now
