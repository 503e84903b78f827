use Rattle.std.proofs.Common.{ap, ◌∙◌, map}
use Rattle.nn_replicas.specs.Entry.{cell_retired}
use Rattle.nn_replicas.proofs.Written.{sorted_refilled}
use Rattle.nn_replicas.proofs.entry.Entry.retire.Goals as goal

pub invariant_of-self : goal.invariant_of-self
invariant_of-self c =
    sorted_refilled c.self.inside.cells.items c.retire_slots.new.slots c.self.invariant (c.retire_slots.ensures ∙ ap (map (λ c. (c.0, cell_retired c.1))) c.as_mut_slice.ensures.value)
