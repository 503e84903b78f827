use Rattle.std.proofs.Common.{◌≡◌, length}
use Rattle.nn_model.specs.Apply.{keeps_ids}
use Rattle.nn_tree.proofs.tree.files.keeps_ids.Given as goal

-- the pairs before have equal ids
abbrev pub invariant-pairs : goal.invariant-pairs
invariant-pairs l = keeps_ids l.old_left l.new_left ≡ keeps_ids l.fn.old l.fn.new

abbrev pub decreases-pairs : goal.decreases-pairs
decreases-pairs l = length l.old_left
