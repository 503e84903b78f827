use Rattle.std.proofs.Common.{◌≡◌, ◌++◌, length}
use Rattle.nn_tree.specs.Ids.{ids_of_rows}
use Rattle.nn_tree.proofs.Tallies.{AreOff}
use Rattle.nn_tree.proofs.tree.Tree.collect_ids.Given as goal

-- the ids so far and those of the rows to come are all, and what is taken off is what came
abbrev pub invariant-rows : goal.invariant-rows
invariant-rows l = (l.out.items ++ ids_of_rows l.rows.left ≡ l.initial.out.items ++ ids_of_rows l.self) × AreOff l.others l.fn.all l.self l.rows.left

abbrev pub decreases-rows : goal.decreases-rows
decreases-rows l = length l.rows.left
