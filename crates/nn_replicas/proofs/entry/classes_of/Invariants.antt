use Rattle.std.proofs.Common.{◌≡◌, take}
use Rattle.nn_replicas.specs.Figures.{classes_in}
use Rattle.nn_replicas.proofs.entry.classes_of.Given as goal

abbrev pub invariant-loop-slot : goal.invariant-loop-slot
invariant-loop-slot l = l.classes ≡ classes_in l.block (take l.slot-index l.cells)
