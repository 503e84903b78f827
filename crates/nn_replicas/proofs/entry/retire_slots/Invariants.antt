use Rattle.std.proofs.Common.{◌≡◌, ◌++◌, map, take, drop}
use Rattle.nn_replicas.specs.Entry.{cell_retired}
use Rattle.nn_replicas.proofs.entry.retire_slots.Given as goal

-- the cells passed are retired, and the others as they were
abbrev pub invariant-loop-slot : goal.invariant-loop-slot
invariant-loop-slot l = l.slots ≡ map (λ c. (c.0, cell_retired c.1)) (take l.slot-index l.initial.slots) ++ drop l.slot-index l.initial.slots
