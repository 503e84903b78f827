use Rattle.std.proofs.Common.{map}
use Rattle.nn_replicas.proofs.Listed.{Passed}
use Rattle.nn_replicas.proofs.table.Replicas.orders.Given as goal

abbrev pub invariant-loop-block : goal.invariant-loop-block
invariant-loop-block l = Passed l.orders.items (map (λ x. (x.0.now, x.1.now)) l.yielded)
