use Rattle.std.proofs.Common.{◌≡◌, length}
use Rattle.nn_model.specs.Apply.{keeps_stamps}
use Rattle.nn_tree.proofs.tree.files.keeps_stamps.Given as goal

-- the pairs before pass
abbrev pub invariant-pairs : goal.invariant-pairs
invariant-pairs l = keeps_stamps l.fn.last l.old_left l.new_left ≡ keeps_stamps l.fn.last l.fn.old l.fn.new

abbrev pub decreases-pairs : goal.decreases-pairs
decreases-pairs l = length l.new_left
