use Rattle.std.proofs.Common.{◌≡◌, ◌++◌, take}
use Rattle.nn_replicas.specs.Entry.{orders_in}
use Rattle.nn_replicas.proofs.entry.Entry.push_orders.Given as goal

-- the orders of the cells passed were added
abbrev pub invariant-loop-slot : goal.invariant-loop-slot
invariant-loop-slot l = l.orders.items ≡ l.initial.orders.items ++ orders_in l.block (take l.slot-index l.slot-items)
