use Rattle.std.proofs.Common.{◌≡◌, map, replicate}
use Rattle.nn_model.specs.Items.{nothing_known}
use Rattle.nn_shadow.specs.Notes.{node_state_of}
use Rattle.nn_shadow.proofs.shadow.start.nothing_had.Given as goal

abbrev pub invariant-loop : goal.invariant-loop
invariant-loop l = map node_state_of l.had.items ≡ replicate l.counter nothing_known
