use Rattle.std.proofs.Common.{◌≡◌, drop}
use Rattle.std.specs.List.{list_all}
use Rattle.nn_replicas.specs.Entry.{is_idle_cell}
use Rattle.nn_replicas.proofs.entry.are_idle.Given as goal

-- all is left to the slots that come
abbrev pub invariant-loop-slot : goal.invariant-loop-slot
invariant-loop-slot l = list_all (λ c. is_idle_cell c.1) l.slots ≡ list_all (λ c. is_idle_cell c.1) (drop l.slot-index l.slots)
